use Rattle.std.proofs.Common.{◌≡◌, [], ◌∷◌, ap, refl, subst, ◌∙◌, None, Some}
use Rattle.std.specs.Option.{option_map}
use Rattle.mvs_model.specs.Lines.{lines_of}
use Rattle.expected_answers.specs.ExpectedAnswers.{joined, or_nothing, own_texts}
use Rattle.expected_answers.specs.Blank.{IsPartedAt, arrow}
use Rattle.expected_answers.proofs.Cutting.{first_line, some_left}
use Rattle.expected_answers.proofs.Walking.{if_ok, none_left, step_answers, step_end, step_more}
use Rattle.expected_answers.proofs.expected.AnswerPairs.step.Goals as goal

pub returns-in-Some-clause-answers : goal.returns-in-Some-clause-answers
returns-in-Some-clause-answers c =
    let number = c.args.self.now.number in
    let script = c.args.self.now.script.now in
    let printed = lines_of c.args.self.now.printed.now in
    let cut : lines_of script ≡ c.next_line.result.0.now ∷ lines_of c.next_line.result.1.now = rw (c.next_line.ensures.rest, c.next_line.ensures.line) (first_line script c.requires.some) in
    let split_once : IsPartedAt arrow c.next_line.result.0.now c.parted_line.result.0.now (Some c.in-Some.answers.now) = subst (λ o. IsPartedAt arrow c.next_line.result.0.now c.parted_line.result.0.now (option_map (λ a. a.now) o)) c.in-Some.is c.parted_line.ensures in
    let texts = c.in_ok-self.ensures.texts ∙ ap (λ t. joined t (own_texts number c.split_once.result.0.now printed)) c.new-texts.ensures.items ∙ ap (λ t. joined [] (own_texts number t printed)) c.split_once.ensures.before in
    let got = c.in_ok-or_nothing-in-Some.ensures ∙ ap or_nothing texts in
    step_answers number script c.next_line.result.1.now c.next_line.result.0.now c.parted_line.result.0.now printed (lines_of c.in_ok-self.field-0.now) cut c.in_ok-self.ensures.rest c.in-Some.answers.now c.trimmed.result.now c.in_ok-or_nothing-in-Some.field-0.items split_once c.trimmed.ensures got

pub returns-in-None-clause-answers : goal.returns-in-None-clause-answers
returns-in-None-clause-answers c =
    let number = c.args.self.now.number in
    let script = c.args.self.now.script.now in
    let line = c.next_line.result.0.now in
    let cut : lines_of script ≡ c.next_line.result.0.now ∷ lines_of c.next_line.result.1.now = rw (c.next_line.ensures.rest, c.next_line.ensures.line) (first_line script c.requires.some) in
    let split_once : IsPartedAt arrow line c.parted_line.result.0.now None = subst (λ o. IsPartedAt arrow line c.parted_line.result.0.now (option_map (λ a. a.now) o)) c.in-None.is c.parted_line.ensures in
    let last = none_left c.next_line.result.1.now c.is_empty.result c.is_empty.ensures c.if-is_empty.true in
    if_ok c.expected_at_end.result _ _ c.expected_at_end.ensures (λ found is. step_end number script c.next_line.result.1.now line c.parted_line.result.0.now (lines_of c.args.self.now.printed.now) (lines_of c.in_ok-self.field-0.now) cut c.in_ok-self.ensures.rest found split_once last is)

pub returns-clause-answers : goal.returns-clause-answers
returns-clause-answers c =
    let number = c.args.self.now.number in
    let script = c.args.self.now.script.now in
    let cut : lines_of script ≡ c.next_line.result.0.now ∷ lines_of c.next_line.result.1.now = rw (c.next_line.ensures.rest, c.next_line.ensures.line) (first_line script c.requires.some) in
    let split_once : IsPartedAt arrow c.next_line.result.0.now c.parted_line.result.0.now None = subst (λ o. IsPartedAt arrow c.next_line.result.0.now c.parted_line.result.0.now (option_map (λ a. a.now) o)) c.in-None-2.is c.parted_line.ensures in
    step_more number script c.next_line.result.1.now c.next_line.result.0.now c.parted_line.result.0.now (lines_of c.args.self.now.printed.now) (lines_of c.in_ok-self.field-0.now) cut c.in_ok-self.ensures.rest split_once (some_left c.next_line.result.1.now c.is_empty.result c.is_empty.ensures c.if-is_empty.false)
