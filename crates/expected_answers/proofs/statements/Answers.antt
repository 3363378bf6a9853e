use Rattle.std.proofs.Common.{◌≡◌, ◌∷◌, ap, arith, ◌∙◌, ◌++◌, [], map}
use Rattle.mvs_model.specs.Lines.{ended_text, lines_of}
use Rattle.expected_answers.specs.ExpectedAnswers.{statement_of}
use Rattle.expected_answers.proofs.Cutting.{first_line, some_left}
use Rattle.expected_answers.proofs.Walking.{run_more}
use Rattle.std.proofs.lemmas.Grind.{common_steps}
use Rattle.expected_answers.proofs.statements.Goals as goal

pub lines-preserved : goal.lines-preserved
lines-preserved c =
    let text = c.lines.rest.now in
    let cut : lines_of text ≡ c.next_line.result.0.now ∷ lines_of c.next_line.result.1.now = rw (c.next_line.ensures.rest, c.next_line.ensures.line) (first_line text (some_left text c.is_empty.result c.is_empty.ensures c.lines-test.true)) in
    let run : c.push.new.self.items ≡ (c.lines.run.items ++ c.statement_of.result.now) ++ 10 ∷ [] = grind (arith, common_steps) in
    ap (λ r. r ++ ended_text (map statement_of (lines_of c.next_line.result.1.now))) run
    ∙ run_more c.lines.run.items c.statement_of.result.now c.next_line.result.0.now text c.next_line.result.1.now cut c.statement_of.ensures ∙ c.lines.invariant
