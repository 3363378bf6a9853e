use Rattle.std.proofs.Common.{◌∙◌, ap}
use Rattle.expected_answers.proofs.Walking.{begins, some_mapped}
use Rattle.expected_answers.proofs.printed.begins_with.Goals as goal

pub returns : goal.returns
returns c = c.is_some.ensures ∙ some_mapped c.text_in.result _ c.text_in.ensures ∙ begins c.args.number.now c.args.printed.now c.next_line.result.0.now c.next_line.ensures.line
