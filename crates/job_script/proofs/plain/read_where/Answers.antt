use Rattle.std.proofs.Common.{sym, ◌∙◌}
use Rattle.job_script.proofs.PlainLines.{where_line}
use Rattle.job_script.proofs.plain.read_where.Goals as goal

pub returns : goal.returns
returns c =
    let area = c.in_ok-area in
    where_line c.args.field.now c.args.task c.name.result area.area.now area.rest.now area.ensures c.name.ensures (sym c.is_remark.ensures ∙ c.if-not-is_remark.false)
