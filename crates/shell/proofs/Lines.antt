-- Lines with their ends.
use Rattle.std.proofs.Common.{◌≡◌, ◌≤◌, ◌<◌, ◌+◌, ℕ, zero, suc, List, [], ◌∷◌, ◌++◌, append_assoc, length, length-append, take, get_or, arith, refl, sym, ap, ◌∙◌, subst, Result, Ok, Err}
use Rattle.std.specs.Prelude.{IsErrAnd, MatchResult}
use Rattle.std.proofs.lemmas.List.{take_more}
use Rattle.std.specs.List.{AllByRecursion}
use Rattle.mvs_model.specs.Lines.{IsUnended, ended_text}
use Rattle.mvs_model.specs.Numbers.{most_script_bytes}
use Rattle.shell.specs.Scripts.{HasRoom, IsScript}

pub ended_last : (lines : List (List ℕ)) (l : List ℕ) → ended_text (lines ++ l ∷ []) ≡ ended_text lines ++ (l ++ 10 ∷ [])
ended_last [] l = refl
ended_last (x ∷ lines) l = ap (λ y. x ++ 10 ∷ y) (ended_last lines l) ∙ sym (append_assoc x (10 ∷ ended_text lines) (l ++ 10 ∷ []))

pub length_last : (lines : List (List ℕ)) (l : List ℕ) → length (ended_text (lines ++ l ∷ [])) ≡ length (ended_text lines) + (length l + 1)
length_last lines l =
    let a = length-append (ended_text lines) (l ++ 10 ∷ []) in
    let b = length-append l (10 ∷ []) in
    ap length (ended_last lines l) ∙ omega (arith, a, b)

pub each_last : (lines : List (List ℕ)) (l : List ℕ) → AllByRecursion IsUnended lines → IsUnended l → AllByRecursion IsUnended (lines ++ l ∷ [])
each_last [] l each last = (last, tt)
each_last (x ∷ lines) l each last = (each.0, each_last lines l each.1 last)

ended_length : (x : List ℕ) (lines : List (List ℕ)) → length (ended_text (x ∷ lines)) ≡ length x + (length (ended_text lines) + 1)
ended_length x lines = length-append x (10 ∷ ended_text lines) ∙ omega arith

-- each line has its end at least
pub fewer_lines : (lines : List (List ℕ)) → length lines ≤ length (ended_text lines)
fewer_lines [] = omega arith
fewer_lines (x ∷ lines) = let a = ended_length x lines in let b = fewer_lines lines in omega (arith, a, b)

pub first_ended : (n : ℕ) (lines : List (List ℕ)) → length (ended_text (take n lines)) ≤ length (ended_text lines)
first_ended zero lines = omega arith
first_ended (suc n) [] = omega arith
first_ended (suc n) (x ∷ lines) = let a = ended_length x lines in let b = ended_length x (take n lines) in let c = first_ended n lines in omega (arith, a, b, c)

pub first_each : (n : ℕ) (lines : List (List ℕ)) → AllByRecursion IsUnended lines → AllByRecursion IsUnended (take n lines)
first_each zero lines each = tt
first_each (suc n) [] each = tt
first_each (suc n) (x ∷ lines) each = (each.0, first_each n lines each.1)

-- ---- a script

module _ (lines : List (List ℕ)) (bytes : ℕ) (script : IsScript lines bytes) where
  pub few_lines : length lines ≤ most_script_bytes
  few_lines = let a = fewer_lines lines in omega (arith, a, script.1, script.2)

  pub few_left : (n : ℕ) → length (ended_text (take n lines)) ≤ most_script_bytes
  few_left n = let a = first_ended n lines in omega (arith, a, script.1, script.2)

  pub left_script : (n : ℕ) (new : List (List ℕ)) (count : ℕ) → new ≡ take n lines → count ≡ length (ended_text new) → IsScript new count
  left_script n new count is counted =
      let few : length (ended_text new) ≤ most_script_bytes = subst (λ x. length (ended_text x) ≤ most_script_bytes) (sym is) (few_left n) in
      (subst (AllByRecursion IsUnended) (sym is) (first_each n lines script.0), counted, omega (arith, counted, few))

  pub longer_script : (line : List ℕ) (new : List (List ℕ)) → HasRoom lines line → IsUnended line → new ≡ lines ++ line ∷ [] → IsScript new (bytes + (length line + 1))
  longer_script line new room unended is =
      let a = length_last lines line in
      let b = ap (λ x. length (ended_text x)) is in
      (subst (AllByRecursion IsUnended) (sym is) (each_last lines line script.0 unended), omega (arith, a, b, script.1), omega (arith, room, script.1))

-- ---- the lines up to an index

module _ (lines : List (List ℕ)) (i : ℕ) (line text : List ℕ) (here : line ≡ get_or lines i line) (within : i < length lines) (same : text ≡ line) where
  pub taken_line : take (i + 1) lines ≡ take i lines ++ line ∷ []
  taken_line = take_more lines i line within ∙ ap (λ x. take i lines ++ x ∷ []) (sym here)

  pub counted_line : (bytes : ℕ) → bytes ≡ length (ended_text (take i lines)) → bytes + (length text + 1) ≡ length (ended_text (take (i + 1) lines))
  counted_line bytes is =
      let a = length_last (take i lines) line in
      let b = ap (λ x. length (ended_text x)) taken_line in
      let c = ap length same in
      omega (arith, a, b, c, is)

  pub written_line : (before mid after : List ℕ) → before ≡ ended_text (take i lines) → mid ≡ before ++ text → after ≡ mid ++ 10 ∷ [] → after ≡ ended_text (take (i + 1) lines)
  written_line before mid after is more end =
      end ∙ ap (λ x. x ++ 10 ∷ []) (more ∙ ap (λ x. x ++ text) is ∙ ap (λ x. ended_text (take i lines) ++ x) same) ∙ append_assoc (ended_text (take i lines)) line (10 ∷ []) ∙ sym (ended_last (take i lines) line) ∙ sym (ap ended_text taken_line)

-- a call returned this value, if `map_err` returned it
pub mapped_ok : {T E D : Type 0} (r : Result T E) (s : Result T D) (Q : E → D → Type 0) (x : T) → MatchResult r (λ y. s ≡ Ok y) (λ e. IsErrAnd s (Q e)) → s ≡ Ok x → r ≡ Ok x
mapped_ok (Ok y) s Q x same is = ap (λ z. Ok z) (let e : Ok y ≡ Ok x = sym same ∙ is in cc)
mapped_ok (Err e) s Q x never is = absurd (subst (λ z. IsErrAnd z (Q e)) is never)
