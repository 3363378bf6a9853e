-- What a run printed for a line, a printed line at a time.
use Rattle.std.proofs.Common.{◌≡◌, ℕ, ◌+◌, ◌<◌, ◌==◌, Bor, true, if◌then◌else◌, List, [], ◌∷◌, ◌++◌, append_assoc, Option, Some, None, length, refl, sym, ap, ◌∙◌}
use Rattle.std.specs.Prelude.{is_some}
use Rattle.std.specs.List.{before_first}
use Rattle.std.specs.Option.{option_map}
use Rattle.mvs_model.specs.Lines.{lines_of}
use Rattle.expected_answers.proofs.Cutting.{first_line}
use Rattle.expected_answers.specs.ExpectedAnswers.{joined}
use Rattle.language_server.specs.LineOutputs.{LineOutputValue, after_own, is_own, is_own_line, onto_other, onto_text, others_of, own, own_text, task_of, texts_of, line_outputs, output_of, with_other, with_text}

join_step : (o : Option (List ℕ)) (answer : List ℕ) (texts : List (List ℕ)) → joined (with_text o answer) texts ≡ joined answer (onto_text o texts)
join_step None answer texts = refl
join_step (Some t) answer texts = refl

other_step : (o : Option (List ℕ)) (others l rest : List ℕ) → with_other o others l ++ rest ≡ others ++ onto_other o l rest
other_step None others l rest = append_assoc (others ++ l) (10 ∷ []) rest ∙ append_assoc others l (10 ∷ rest)
other_step (Some t) others l rest = refl

-- one printed line is taken
module _ (number : ℕ) (text line next : List ℕ) (is : is_own number (lines_of text) ≡ true) (cut : lines_of text ≡ line ∷ lines_of next) where
  here : is_own_line number line ≡ true
  here = sym (ap (is_own number) cut) ∙ is

  own_here : own number (lines_of text) ≡ line ∷ own number (lines_of next)
  own_here = ap (own number) cut ∙ ap (λ v. if v then line ∷ own number (lines_of next) else []) here

  pub take_answer : (task answer answer' : List ℕ) → answer' ≡ with_text (own_text number task line) answer
      → joined answer' (texts_of number task (own number (lines_of next))) ≡ joined answer (texts_of number task (own number (lines_of text)))
  take_answer task answer answer' more =
      ap (λ a. joined a (texts_of number task (own number (lines_of next)))) more
      ∙ join_step (own_text number task line) answer (texts_of number task (own number (lines_of next)))
      ∙ ap (λ ls. joined answer (texts_of number task ls)) (sym own_here)

  pub take_other : (task others others' : List ℕ) → others' ≡ with_other (own_text number task line) others line
      → others' ++ others_of number task (own number (lines_of next)) ≡ others ++ others_of number task (own number (lines_of text))
  take_other task others others' more =
      ap (λ o. o ++ others_of number task (own number (lines_of next))) more
      ∙ other_step (own_text number task line) others line (others_of number task (own number (lines_of next)))
      ∙ ap (λ ls. others ++ others_of number task ls) (sym own_here)

  pub take_after : after_own number (lines_of next) ≡ after_own number (lines_of text)
  take_after = sym (ap (λ v. if v then after_own number (lines_of next) else line ∷ lines_of next) here) ∙ ap (after_own number) (sym cut)

-- the first line of a text
pub own_first : (number : ℕ) (text line : List ℕ) → line ≡ before_first (λ b. b == 10) text → 0 < length text → is_own_line number line ≡ is_own number (lines_of text)
own_first number text line is some = sym (ap (is_own number) (first_line text some) ∙ ap (is_own_line number) (sym is))

pub mapped : (o : Option (Bor (List ℕ))) (p : Option (List ℕ)) → option_map (λ t. t.now) o ≡ p → is_some o ≡ is_some p
mapped None p is = ap is_some is
mapped (Some t) p is = ap is_some is

-- what was taken for a line, from an empty output
pub output_is : (number : ℕ) (line task : List ℕ) (printed : List (List ℕ)) (new output : LineOutputValue) → task ≡ before_first (λ b. b == 32) line → new.answer ≡ [] → new.others ≡ []
    → output.answer ≡ joined new.answer (texts_of number task (own number printed)) → output.others ≡ new.others ++ others_of number task (own number printed)
    → output ≡ output_of number (task_of line) printed
output_is number line task printed new output of empty none answer others =
    let a : output.answer ≡ joined [] (texts_of number (task_of line) (own number printed)) =
    answer ∙ ap (λ b. joined b (texts_of number task (own number printed))) empty ∙ ap (λ t. joined [] (texts_of number t (own number printed))) of in
    let o : output.others ≡ others_of number (task_of line) (own number printed) =
    others ∙ ap (λ b. b ++ others_of number task (own number printed)) none ∙ ap (λ t. others_of number t (own number printed)) of in
    λ i. record { answer = a i; others = o i }

-- one line of the script is done
pub outputs_more : (number : ℕ) (found found' : List LineOutputValue) (output : LineOutputValue) (line text next : List ℕ) (printed after : List (List ℕ)) → lines_of text ≡ line ∷ lines_of next
    → found' ≡ found ++ output ∷ [] → output ≡ output_of number (task_of line) printed → after ≡ after_own number printed
    → found' ++ line_outputs (number + 1) (lines_of next) after ≡ found ++ line_outputs number (lines_of text) printed
outputs_more number found found' output line text next printed after cut new is rest =
    ap (λ f. f ++ line_outputs (number + 1) (lines_of next) after) new
    ∙ append_assoc found (output ∷ []) (line_outputs (number + 1) (lines_of next) after)
    ∙ ap (λ t. found ++ t ∷ line_outputs (number + 1) (lines_of next) after) is
    ∙ ap (λ a. found ++ output_of number (task_of line) printed ∷ line_outputs (number + 1) (lines_of next) a) rest
    ∙ ap (λ ls. found ++ line_outputs number ls printed) (sym cut)
