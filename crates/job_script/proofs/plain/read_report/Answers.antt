use Rattle.std.proofs.Common.{sym, ◌∙◌}
use Rattle.job_script.proofs.PlainLines.{report_line}
use Rattle.job_script.proofs.plain.read_report.Goals as goal

pub returns : goal.returns
returns c = report_line c.args.field.now c.args.task (sym c.is_remark.ensures ∙ c.if-not-is_remark.false)
