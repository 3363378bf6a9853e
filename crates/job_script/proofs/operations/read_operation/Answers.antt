use Rattle.std.proofs.Common.{sym, ◌∙◌}
use Rattle.job_script.proofs.Unknown.{named, unnamed}
use Rattle.job_script.proofs.operations.read_operation.Goals as goal

pub returns-then-is : goal.returns-then-is
returns-then-is c = named c.args.word.now c.likely-operation.result (sym c.is.ensures ∙ c.if-is.true)

pub returns-else-is : goal.returns-else-is
returns-else-is c = unnamed c.args.word.now c.likely-operation.result c.likely-operation.ensures (sym c.is.ensures ∙ c.if-is.false)
