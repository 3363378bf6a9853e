use Rattle.std.proofs.Common.{◌∙◌}
use Rattle.schedules.proofs.Statements.{empty_test}
use Rattle.schedules.proofs.script.is_first.Goals as goal

pub returns : goal.returns
returns c = c.is_empty.ensures ∙ empty_test c.args.found.now
