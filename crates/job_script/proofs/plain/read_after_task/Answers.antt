use Rattle.job_script.proofs.PlainLines.{of_text}
use Rattle.job_script.proofs.plain.read_after_task.Goals as goal

pub returns-in_ok-strip_prefix-in-71 : goal.returns-in_ok-strip_prefix-in-71
returns-in_ok-strip_prefix-in-71 c = of_text _ _ _ c.in_ok-strip_prefix-in-71.ensures c.read_obtain.ensures

pub returns-in_ok-strip_prefix-in-70 : goal.returns-in_ok-strip_prefix-in-70
returns-in_ok-strip_prefix-in-70 c = of_text _ _ _ c.in_ok-strip_prefix-in-70.ensures c.read_release.ensures

pub returns-in_ok-strip_prefix-in-67 : goal.returns-in_ok-strip_prefix-in-67
returns-in_ok-strip_prefix-in-67 c = of_text _ _ _ c.in_ok-strip_prefix-in-67.ensures c.read_cell.ensures

pub returns-in_ok-strip_prefix-in-80 : goal.returns-in_ok-strip_prefix-in-80
returns-in_ok-strip_prefix-in-80 c = of_text _ _ _ c.in_ok-strip_prefix-in-80.ensures c.read_put.ensures

pub returns-in_ok-strip_prefix-in-83 : goal.returns-in_ok-strip_prefix-in-83
returns-in_ok-strip_prefix-in-83 c = of_text _ _ _ c.in_ok-strip_prefix-in-83.ensures c.read_show.ensures

pub returns-in_ok-strip_prefix-in-87 : goal.returns-in_ok-strip_prefix-in-87
returns-in_ok-strip_prefix-in-87 c = of_text _ _ _ c.in_ok-strip_prefix-in-87.ensures c.read_where.ensures

pub returns-in_ok-strip_prefix-in-82 : goal.returns-in_ok-strip_prefix-in-82
returns-in_ok-strip_prefix-in-82 c = of_text _ _ _ c.in_ok-strip_prefix-in-82.ensures c.read_report.ensures

pub returns-in_ok-strip_prefix-in_default : goal.returns-in_ok-strip_prefix-in_default
returns-in_ok-strip_prefix-in_default c = of_text _ _ _ c.in_ok-strip_prefix-in_default.ensures c.read_return.ensures
