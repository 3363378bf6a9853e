use Rattle.std.proofs.Common.{sym, ◌∙◌}
use Rattle.job_script.proofs.PlainLines.{get_line}
use Rattle.job_script.proofs.plain.read_get.Goals as goal

pub returns : goal.returns
returns c =
    let pool = c.in_ok-pool in
    let cell = c.in_ok-cell in
    get_line c.args.conditional c.args.field.now c.args.task c.name.result c.name-2.result pool.pool.now pool.rest.now cell.cell.now cell.rest.now
    pool.ensures c.name.ensures cell.ensures c.name-2.ensures (sym c.is_remark.ensures ∙ c.if-not-is_remark.false)
