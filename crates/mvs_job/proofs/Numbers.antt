-- The lines of the numbers that a task has, one after another.
use Rattle.std.proofs.Common.{◌≡◌, ℕ, zero, suc, ◌+◌, ◌<◌, ◌≤◌, ◌⊎◌, ◌++◌, List, [], ◌∷◌, inl, inr, Option, true, false, codes, length, length-append, refl, ap, sym, ◌∙◌, add-one, append_assoc, append-nil, subst, arith}
use Rattle.std.proofs.lemmas.Bool.{cases_lt}
use Rattle.std.proofs.lemmas.Grind.{flat_map-append}
use Rattle.std.specs.List.{flat_map}
use Rattle.std.specs.Io.KnownBytes.{Appends}
use Rattle.std.proofs.KnownBytes.{Appends-trans}
use Rattle.mvs_model.specs.declared.name.Name.{Name}
use Rattle.mvs_model.specs.declared.report.SubpoolLine.{SubpoolLine}
use Rattle.mvs_model.specs.Owners.{entry}
use Rattle.mvs_model.specs.State.{State}
use Rattle.mvs_model.specs.Answers.{Subpools}
use Rattle.mvs_model.specs.Texts.{reply_line, subpool_text, answer_text}
use Rattle.mvs_model.specs.Reports.{bytes_held, each_below, line_of_entry, subpool_lines_of}
use Rattle.request_forms.specs.Reports.{HasNone, IsSubpoolLine}
use Rattle.line_text.specs.Writing.{AppendsFront}
use Rattle.line_text.proofs.Appending.{front_longer, front_more}

-- the lists below a bound
module _ {X : Type 0} (f : ℕ → List X) where
  pub each_none : each_below zero f ≡ []
  unfolding each_below
  each_none = refl

  each_more : (n : ℕ) → each_below (suc n) f ≡ each_below n f ++ f n
  unfolding each_below
  each_more n = refl

  pub each_next : (n : ℕ) → each_below (n + 1) f ≡ each_below n f ++ f n
  each_next n = ap (λ m. each_below m f) (add-one n) ∙ each_more n

  -- those that are empty add nothing
  pub each_skip : (from n : ℕ) → from ≤ n → ((m : ℕ) → from ≤ m → m < n → f m ≡ []) → each_below n f ≡ each_below from f
  each_skip from zero low none = ap (λ m. each_below m f) (let e : zero ≡ from = omega (arith, low) in e)
  each_skip from (suc n) low none = at (cases_lt n from) (λ le. each_skip from n le (λ m l h. none m l (omega (arith, h)))) where
    at : (n < from) ⊎ (from ≤ n) → (from ≤ n → each_below n f ≡ each_below from f) → each_below (suc n) f ≡ each_below from f
    at (inl over) rest = ap (λ m. each_below m f) (let e : suc n ≡ from = omega (arith, over, low) in e)
    at (inr le) rest = each_more n ∙ ap (λ z. each_below n f ++ z) (none n le (omega arith)) ∙ append-nil (each_below n f) ∙ rest le

  -- those below a lower bound stand in front
  pub each_front : (m n : ℕ) → m ≤ n → (rest : List X) × (each_below n f ≡ each_below m f ++ rest)
  each_front m zero low = ([], ap (λ k. each_below k f) (let e : zero ≡ m = omega (arith, low) in e) ∙ sym (append-nil (each_below m f)))
  each_front m (suc n) low = at (cases_lt n m) (λ le. each_front m n le) where
    at : (n < m) ⊎ (m ≤ n) → (m ≤ n → (rest : List X) × (each_below n f ≡ each_below m f ++ rest)) → (rest : List X) × (each_below (suc n) f ≡ each_below m f ++ rest)
    at (inl over) rest = ([], ap (λ k. each_below k f) (let e : suc n ≡ m = omega (arith, over, low) in e) ∙ sym (append-nil (each_below m f)))
    at (inr le) rest = let r = rest le in (r.0 ++ f n, each_more n ∙ ap (λ z. z ++ f n) r.1 ∙ append_assoc (each_below m f) r.0 (f n))

module _ (number : ℕ) (st : State) (t : Name) where
  -- the line of each number
  abbrev pub number_line : ℕ → List SubpoolLine
  number_line n = line_of_entry st.owners (λ s. bytes_held st s false) (λ s. bytes_held st s true) t n (entry st.owners t n)

  -- what is printed of a number that the task has
  abbrev pub line_text : SubpoolLine → List ℕ
  line_text line = reply_line number t (subpool_text line)

  -- what is printed of the numbers below one
  abbrev pub numbers_text : ℕ → List ℕ
  numbers_text end = flat_map line_text (each_below end number_line)

  lines_none : (from end : ℕ) → from ≤ end → HasNone st.owners t from end → each_below end number_line ≡ each_below from number_line
  lines_none from end low none = each_skip number_line from end low (λ n l h. ap (line_of_entry st.owners (λ s. bytes_held st s false) (λ s. bytes_held st s true) t n) (none n l h))

  pub text_none : (from end : ℕ) → from ≤ end → HasNone st.owners t from end → numbers_text end ≡ numbers_text from
  text_none from end low none = ap (flat_map line_text) (lines_none from end low none)

  line_meaning : (from : ℕ) (line : SubpoolLine) → IsSubpoolLine st t from line → number_line line.number ≡ line ∷ []
  line_meaning from line is =
      ap (line_of_entry st.owners (λ s. bytes_held st s false) (λ s. bytes_held st s true) t line.number) is.has
      ∙ (λ i. record { number = line.number; owned = sym is.owned i; plain = sym is.plain i; pool = sym is.pool i } ∷ [])

  -- the lines up to a number, and its own
  lines_with : (from : ℕ) (line : SubpoolLine) → IsSubpoolLine st t from line → each_below (line.number + 1) number_line ≡ each_below from number_line ++ line ∷ []
  lines_with from line is =
      each_next number_line line.number ∙ ap (λ z. z ++ number_line line.number) (lines_none from line.number is.after is.first) ∙ ap (λ z. each_below from number_line ++ z) (line_meaning from line is)

  text_with : (from : ℕ) (line : SubpoolLine) → IsSubpoolLine st t from line → numbers_text (line.number + 1) ≡ numbers_text from ++ line_text line
  text_with from line is = ap (flat_map line_text) (lines_with from line is) ∙ flat_map-append line_text (each_below from number_line) (line ∷ []) ∙ ap (λ z. numbers_text from ++ z) (append-nil (line_text line))

  -- a line that is printed, in full or in part
  pub numbers_more : (a b c : Option (List ℕ)) (from : ℕ) (line : SubpoolLine) → IsSubpoolLine st t from line → Appends a b (numbers_text from) → Appends b c (line_text line) → Appends a c (numbers_text (line.number + 1))
  numbers_more a b c from line is so_far p = rw (text_with from line is) (Appends-trans a b c _ _ so_far p)

  pub numbers_front : (a b c : Option (List ℕ)) (from : ℕ) (line : SubpoolLine) → IsSubpoolLine st t from line → Appends a b (numbers_text from) → AppendsFront b c (line_text line) → AppendsFront a c (numbers_text 133)
  numbers_front a b c from line is so_far p =
      let all = each_front number_line (line.number + 1) 133 (omega (arith, is.low)) in
      let rest = flat_map line_text all.0 in
      let whole = ap (flat_map line_text) all.1 ∙ flat_map-append line_text (each_below (line.number + 1) number_line) all.0 in
      subst (AppendsFront a c) (ap (λ z. z ++ rest) (sym (text_with from line is)) ∙ sym whole) (front_longer a c _ rest (front_more a b c _ _ so_far p))

  -- the report of a task that has a number, and of one that has none
  or_some : (lines : List SubpoolLine) → 0 < length lines → flat_map line_text lines ≡ answer_text number t (Subpools lines)
  or_some [] some = absurd (omega (arith, some))
  or_some (l ∷ lines) some = refl

  pub some_text : (line : SubpoolLine) → IsSubpoolLine st t 0 line → numbers_text 133 ≡ answer_text number t (Subpools (subpool_lines_of st t))
  some_text line is =
      let all = each_front number_line (line.number + 1) 133 (omega (arith, is.low)) in
      let with = ap length (all.1 ∙ ap (λ z. z ++ all.0) (lines_with 0 line is)) in
      let two = length-append (each_below 0 number_line) (line ∷ []) in
      let three = length-append (each_below 0 number_line ++ line ∷ []) all.0 in
      or_some (each_below 133 number_line) (omega (arith, with, two, three))

  pub none_text : HasNone st.owners t 0 133 → reply_line number t (codes "SP NONE") ≡ answer_text number t (Subpools (subpool_lines_of st t))
  none_text none = sym (ap (λ lines. answer_text number t (Subpools lines)) (lines_none 0 133 (omega arith) none ∙ each_none number_line))
