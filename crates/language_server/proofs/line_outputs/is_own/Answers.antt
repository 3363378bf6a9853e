use Rattle.std.proofs.Common.{◌∙◌}
use Rattle.expected_answers.proofs.Cutting.{some_left}
use Rattle.language_server.proofs.TakenLines.{own_first}
use Rattle.language_server.proofs.line_outputs.is_own.Goals as goal

pub returns-else-is_empty-clause-own : goal.returns-else-is_empty-clause-own
returns-else-is_empty-clause-own c =
    c.is_own_line.ensures ∙ own_first c.args.number c.args.printed.now c.split_once.result.0.now c.split_once.ensures.before (some_left c.args.printed.now c.is_empty.result c.is_empty.ensures c.if-is_empty.false)
