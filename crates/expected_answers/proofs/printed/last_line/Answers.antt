use Rattle.std.proofs.Common.{◌∙◌, ap, sym}
use Rattle.expected_answers.specs.ExpectedAnswers.{last_or}
use Rattle.expected_answers.proofs.Cutting.{first_line, some_left}
use Rattle.expected_answers.proofs.printed.last_line.Goals as goal

pub lines-preserved : goal.lines-preserved
lines-preserved c =
    let text = c.lines.rest.now in
    let cut = first_line text (some_left text c.is_empty.result c.is_empty.ensures c.lines-test.true) in
    rw (c.next_line.ensures.rest, c.next_line.ensures.line) (sym (ap (last_or c.lines.last.now) cut) ∙ c.lines.invariant)
