-- The printed lines of a run, the answers of a script, and their counts.
use Rattle.std.proofs.Common.{◌≡◌, ℕ, ◌+◌, ◌<◌, ◌==◌, ◌&&◌, ◌||◌, Bool, true, false, if◌then◌else◌, List, [], ◌∷◌, ◌++◌, length, drop, append_assoc, arith, map, codes, Option, Some, None, Result, Ok, Err, IfOk, Bor, is_some, refl, sym, ap, ◌∙◌}
use Rattle.std.proofs.lemmas.Bool.{eqb-true}
use Rattle.std.specs.List.{after_first, before_first}
use Rattle.std.specs.Option.{option_map}
use Rattle.mvs_model.specs.Lines.{ended_text, lines_of}
use Rattle.expected_answers.specs.ExpectedAnswers.{ExpectedAnswer, after_own, after_place, after_prefix, answers_in, expected_answers, expected_at_end, expected_by, expected_in, expected_without, begins_with, end_in, ends_step, got_of, is_own, joined, numbered, onto, own, own_texts, statement_of, task_of, text_of, trimmed}
use Rattle.expected_answers.specs.Blank.{IsPartedAt, arrow, place_of, up_to}
use Rattle.expected_answers.proofs.Cutting.{first_line}

-- ---- the printed lines of a statement

pub some_mapped : (o : Option (Bor (List ℕ))) (p : Option (List ℕ)) → option_map (λ t. t.now) o ≡ p → is_some o ≡ is_some p
some_mapped None p is = ap is_some is
some_mapped (Some t) p is = ap is_some is

-- an empty text begins with nothing that ends in a blank
not_of_nothing : (xs : List ℕ) → after_prefix (xs ++ 32 ∷ []) [] ≡ None
not_of_nothing [] = refl
not_of_nothing (x ∷ xs) = refl

-- the number of the first line of a text
pub begins : (number : ℕ) (text line : List ℕ) → line ≡ before_first (λ b. b == 10) text → is_some (numbered number line) ≡ begins_with number (lines_of text)
begins number [] line is = ap (λ l. is_some (numbered number l)) is ∙ ap is_some (not_of_nothing _)
begins number (b ∷ text) line is = ap (λ l. is_some (numbered number l)) is ∙ sym (ap (begins_with number) (first_line (b ∷ text) (omega arith)))

or_true : (a b : Bool) → a ≡ true → (a || b) ≡ true
or_true a b is = rw is refl

-- the first line of a text is of a statement: it has the number
pub own_numbered : (number : ℕ) (text line : List ℕ) → line ≡ before_first (λ b. b == 10) text → is_some (numbered number line) ≡ true → is_own number (lines_of text) ≡ true
own_numbered number [] line is has = absurd (let no : true ≡ false = sym has ∙ begins number [] line is in cc)
own_numbered number (b ∷ text) line is has = ap (is_own number) (first_line (b ∷ text) (omega arith)) ∙ or_true _ _ (ap (λ l. is_some (numbered number l)) (sym is) ∙ has)

-- or it ends a step
pub own_otherwise : (number : ℕ) (text line : List ℕ) → line ≡ before_first (λ b. b == 10) text → is_some (numbered number line) ≡ false
    → is_own number (lines_of text) ≡ (ends_step line && begins_with number (lines_of (after_first (λ b. b == 10) text)))
own_otherwise number [] line is has = sym (ap (λ l. ends_step l && begins_with number []) is)
own_otherwise number (b ∷ text) line is has =
    ap (is_own number) (first_line (b ∷ text) (omega arith))
    ∙ ap (λ v. v || (ends_step (before_first (λ b. b == 10) (b ∷ text)) && begins_with number (lines_of (after_first (λ b. b == 10) (b ∷ text))))) (ap (λ l. is_some (numbered number l)) (sym is) ∙ has)
    ∙ ap (λ l. ends_step l && begins_with number (lines_of (after_first (λ b. b == 10) (b ∷ text)))) (sym is)

-- some texts and one more
abbrev pub with_text : List ℕ → List ℕ → List ℕ
with_text texts t = if length texts == 0 then t else texts ++ (codes " / " ++ t)

own_step : (number : ℕ) (task texts l : List ℕ) (lines : List (List ℕ)) → is_own number (l ∷ lines) ≡ true → joined texts (own_texts number task (l ∷ lines)) ≡ joined (with_text texts (text_of number task l)) (own_texts number task lines)
own_step number task texts l lines is = ap (λ v. joined texts (map (text_of number task) (if v then l ∷ own number lines else []))) is

after_step : (number : ℕ) (l : List ℕ) (lines : List (List ℕ)) → is_own number (l ∷ lines) ≡ true → after_own number (l ∷ lines) ≡ after_own number lines
after_step number l lines is = ap (λ v. if v then after_own number lines else l ∷ lines) is

-- one line is taken of a text
module _ (number : ℕ) (text line next : List ℕ) (is : is_own number (lines_of text) ≡ true) (cut : lines_of text ≡ line ∷ lines_of next) where
  here : is_own number (line ∷ lines_of next) ≡ true
  here = sym (ap (is_own number) cut) ∙ is

  pub take_step : (task texts texts' : List ℕ) → texts' ≡ with_text texts (text_of number task line) → joined texts' (own_texts number task (lines_of next)) ≡ joined texts (own_texts number task (lines_of text))
  take_step task texts texts' more = ap (λ t. joined t (own_texts number task (lines_of next))) more ∙ sym (own_step number task texts line (lines_of next) here) ∙ ap (λ ls. joined texts (own_texts number task ls)) (sym cut)

  pub take_after : after_own number (lines_of next) ≡ after_own number (lines_of text)
  take_after = sym (after_step number line (lines_of next) here) ∙ ap (after_own number) (sym cut)

pub some_of : (text : List ℕ) → (text ≡ [] → ⊥) → 0 < length text
some_of [] h = absurd (h refl)
some_of (b ∷ text) h = omega arith

pub none_left : (text : List ℕ) (f : Bool) → f ≡ (length text == 0) → f ≡ true → text ≡ []
none_left [] f e none = refl
none_left (b ∷ text) f e none = let no : length (b ∷ text) ≡ 0 = eqb-true (length (b ∷ text)) 0 (sym e ∙ none) in absurd (omega arith)

-- ---- a line of a script

-- what is before the arrow of a line, and what is after it
arrow_parts : (line statement : List ℕ) (answers : Option (List ℕ)) → IsPartedAt arrow line statement answers → (statement ≡ up_to (place_of arrow line) line) × (after_place arrow line ≡ answers)
arrow_parts line statement None p = (p.1 ∙ sym (ap (λ o. up_to o line) p.0), ap (option_map (λ n. drop (n + length arrow) line)) p.0)
arrow_parts line statement (Some answers) p = (p.2 ∙ sym (ap (λ o. up_to o line) p.1), ap (option_map (λ n. drop (n + length arrow) line)) p.1 ∙ ap Some (sym p.3))

module _ (number : ℕ) (script next line statement : List ℕ) (printed rest : List (List ℕ)) (cut : lines_of script ≡ line ∷ lines_of next) (after : rest ≡ after_own number printed) where
  asked_next : (found : Option ExpectedAnswer) → expected_in number line (lines_of next) printed ≡ found → expected_answers number (lines_of script) printed ≡ onto found (expected_answers (number + 1) (lines_of next) rest)
  asked_next found is = ap (λ ls. expected_answers number ls printed) cut ∙ ap (λ o. onto o (expected_answers (number + 1) (lines_of next) (after_own number printed))) is ∙ ap (λ ls. onto found (expected_answers (number + 1) (lines_of next) ls)) (sym after)

  -- a line with an arrow
  pub step_answers : (answers expected got : List ℕ) → IsPartedAt arrow line statement (Some answers) → expected ≡ trimmed answers → got ≡ got_of number (before_first (λ b. b == 32) statement) printed
      → expected_answers number (lines_of script) printed ≡ onto (Some (record { number = number; expected = expected; got = got })) (expected_answers (number + 1) (lines_of next) rest)
  step_answers answers expected got split_once e g =
      let p = arrow_parts line statement (Some answers) split_once in
      let is : answers_in line ≡ Some expected = ap (option_map trimmed) p.1 ∙ ap Some (sym e) in
      let of : got_of number (task_of line) printed ≡ got = ap (λ t. got_of number (before_first (λ b. b == 32) t) printed) (sym p.0) ∙ sym g in
      asked_next _ (ap (λ o. expected_by number line o (lines_of next) printed) is ∙ ap (λ t. Some (record { number = number; expected = expected; got = t })) of)

  -- the last line, without an arrow
  pub step_end : (found : Option ExpectedAnswer) → IsPartedAt arrow line statement None → next ≡ [] → found ≡ expected_at_end number (end_in line) rest
      → expected_answers number (lines_of script) printed ≡ onto found (expected_answers (number + 1) (lines_of next) rest)
  step_end found split_once last is =
      let p = arrow_parts line statement None split_once in
      asked_next found (ap (λ o. expected_by number line (option_map trimmed o) (lines_of next) printed) p.1 ∙ ap (λ t. expected_without number line (lines_of t) printed) last ∙ ap (expected_at_end number (end_in line)) (sym after) ∙ sym is)

  -- another line without an arrow
  pub step_more : IsPartedAt arrow line statement None → 0 < length next → expected_answers number (lines_of script) printed ≡ onto None (expected_answers (number + 1) (lines_of next) rest)
  step_more split_once some =
      let p = arrow_parts line statement None split_once in
      asked_next None (ap (λ o. expected_by number line (option_map trimmed o) (lines_of next) printed) p.1 ∙ ap (λ ls. expected_without number line ls printed) (first_line next some))

-- what is so of each value, is so
pub if_ok : {T E : Type 0} (r : Result T E) (P Q : T → Type 0) → IfOk r P → ((x : T) → P x → Q x) → IfOk r Q
if_ok (Ok x) P Q h f = f x h
if_ok (Err e) P Q h f = tt

-- ---- the statements

-- the statements so far, and one more
pub run_more : (run statement line text next : List ℕ) → lines_of text ≡ line ∷ lines_of next → statement ≡ statement_of line
    → ((run ++ statement) ++ 10 ∷ []) ++ ended_text (map statement_of (lines_of next)) ≡ run ++ ended_text (map statement_of (lines_of text))
run_more run statement line text next cut is =
    let left : List ℕ = ended_text (map statement_of (lines_of next)) in
    append_assoc (run ++ statement) (10 ∷ []) left ∙ append_assoc run statement (10 ∷ left)
    ∙ ap (λ s. run ++ (s ++ 10 ∷ left)) is ∙ ap (λ ls. run ++ ended_text (map statement_of ls)) (sym cut)

-- a text whose first line is of a statement has one
pub some_own : (number : ℕ) (text : List ℕ) → is_own number (lines_of text) ≡ true → 0 < length text
some_own number [] is = absurd (let no : false ≡ true = is in cc)
some_own number (b ∷ text) is = omega arith
