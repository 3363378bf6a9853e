use Rattle.std.proofs.Common.{◌≡◌, ◌==◌, ◌&&◌, ◌<◌, ◌∷◌, ℕ, Bool, List, Option, None, Some, Bor, ap, false, is_some, length, sym, true, refl, unwrap_or, ◌∙◌}
use Rattle.std.specs.List.{after_first}
use Rattle.std.specs.Option.{option_map}
use Rattle.mvs_model.specs.Lines.{lines_of}
use Rattle.expected_answers.specs.ExpectedAnswers.{begins_with, is_own, numbered, text_of, without_task}
use Rattle.expected_answers.proofs.Cutting.{first_line}
use Rattle.expected_answers.proofs.Walking.{own_numbered, own_otherwise, some_mapped, some_own}
use Rattle.expected_answers.proofs.printed.own_line.Goals.{else-ends_step-via-then-ends_step+else-begins_with, else-ends_step-via-else-ends_step}
use Rattle.expected_answers.proofs.printed.own_line.Goals as goal

pub returns-in-Some-clause-own : goal.returns-in-Some-clause-own
returns-in-Some-clause-own c =
    let has : is_some (numbered c.args.number.now c.next_line.result.0.now) ≡ true = sym (some_mapped c.text_in.result _ c.text_in.ensures) ∙ ap is_some c.in-Some.is in
    sym (own_numbered c.args.number.now c.args.printed.now c.next_line.result.0.now c.next_line.ensures.line has)

pub returns-in-Some-clause-line : goal.returns-in-Some-clause-line
returns-in-Some-clause-line c =
    let number = c.args.number.now in
    let line = c.next_line.result.0.now in
    let has : is_some (numbered number line) ≡ true = sym (some_mapped c.text_in.result _ c.text_in.ensures) ∙ ap is_some c.in-Some.is in
    let own = own_numbered number c.args.printed.now line c.next_line.ensures.line has in
    let cut : lines_of c.args.printed.now ≡ line ∷ lines_of c.next_line.result.1.now = rw (c.next_line.ensures.rest, c.next_line.ensures.line) (first_line c.args.printed.now (some_own number c.args.printed.now own)) in
    let is : numbered number line ≡ Some c.in-Some.text.now = sym c.text_in.ensures ∙ ap (option_map (λ (t : Bor (List ℕ)). t.now)) c.in-Some.is in
    (line, cut, c.without_task.ensures ∙ sym (ap (λ o. unwrap_or (option_map (without_task c.args.task.now) o) line) is))

pub returns-in-Some-clause-less : goal.returns-in-Some-clause-less
returns-in-Some-clause-less c =
    let number = c.args.number.now in
    let line = c.next_line.result.0.now in
    let has : is_some (numbered number line) ≡ true = sym (some_mapped c.text_in.result _ c.text_in.ensures) ∙ ap is_some c.in-Some.is in
    c.next_line.ensures.less (some_own number c.args.printed.now (own_numbered number c.args.printed.now line c.next_line.ensures.line has))

pub returns-then-begins_with-clause-own : goal.returns-then-begins_with-clause-own
returns-then-begins_with-clause-own c =
    let number = c.args.number.now in
    let printed = c.args.printed.now in
    let line = c.next_line.result.0.now in
    let none : is_some (numbered number line) ≡ false = sym (some_mapped c.text_in.result _ c.text_in.ensures) ∙ ap is_some c.in_default.is in
    sym (own_otherwise number printed line c.next_line.ensures.line none
    ∙ ap (λ v. v && begins_with number (lines_of (after_first (λ b. b == 10) printed))) (sym c.ends_step.ensures ∙ c.if-ends_step.true)
    ∙ ap (λ t. begins_with number (lines_of t)) (sym c.next_line.ensures.rest) ∙ sym c.begins_with.ensures ∙ c.if-begins_with.true)

pub returns-then-begins_with-clause-line : goal.returns-then-begins_with-clause-line
returns-then-begins_with-clause-line c =
    let number = c.args.number.now in
    let printed = c.args.printed.now in
    let line = c.next_line.result.0.now in
    let none : is_some (numbered number line) ≡ false = sym (some_mapped c.text_in.result _ c.text_in.ensures) ∙ ap is_some c.in_default.is in
    let own : is_own number (lines_of printed) ≡ true =
    own_otherwise number printed line c.next_line.ensures.line none
    ∙ ap (λ v. v && begins_with number (lines_of (after_first (λ b. b == 10) printed))) (sym c.ends_step.ensures ∙ c.if-ends_step.true)
    ∙ ap (λ t. begins_with number (lines_of t)) (sym c.next_line.ensures.rest) ∙ sym c.begins_with.ensures ∙ c.if-begins_with.true in
    let cut : lines_of printed ≡ line ∷ lines_of c.next_line.result.1.now = rw (c.next_line.ensures.rest, c.next_line.ensures.line) (first_line printed (some_own number printed own)) in
    let is : numbered number line ≡ None = sym c.text_in.ensures ∙ ap (option_map (λ (t : Bor (List ℕ)). t.now)) c.in_default.is in
    (line, cut, sym (ap (λ o. unwrap_or (option_map (without_task c.args.task.now) o) line) is))

pub returns-clause-own : goal.returns-clause-own
returns-clause-own c =
    let number = c.args.number.now in
    let printed = c.args.printed.now in
    let line = c.next_line.result.0.now in
    let none : is_some (numbered number line) ≡ false = sym (some_mapped c.text_in.result _ c.text_in.ensures) ∙ ap is_some c.in_default.is in
    let other = own_otherwise number printed line c.next_line.ensures.line none in
    let is_rest : Bool → Bool = λ v. v && begins_with number (lines_of (after_first (λ b. b == 10) printed)) in
    elim c.else-ends_step.branch [
      | else-ends_step-via-then-ends_step+else-begins_with w ↦ sym (other ∙ ap is_rest (sym c.ends_step.ensures ∙ w.if-ends_step.true) ∙ ap (λ t. begins_with number (lines_of t)) (sym c.next_line.ensures.rest) ∙ sym w.begins_with.ensures ∙ w.if-begins_with.false)
      | else-ends_step-via-else-ends_step w ↦ sym (other ∙ ap is_rest (sym c.ends_step.ensures ∙ w.if-ends_step.false))
    ]
