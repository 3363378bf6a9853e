use Rattle.std.proofs.Common.{sym, ◌∙◌}
use Rattle.job_script.proofs.PlainLines.{return_line}
use Rattle.job_script.proofs.plain.read_return.Goals as goal

pub returns : goal.returns
returns c = return_line c.args.field.now c.args.task (sym c.is_empty.ensures ∙ c.if-not-is_empty.false)
