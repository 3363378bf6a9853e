use Rattle.std.proofs.Common.{sym, ◌∙◌}
use Rattle.mvs_model.specs.declared.line.Location.TheVariants.{Named}
use Rattle.job_script.proofs.PlainLines.{free_line}
use Rattle.job_script.proofs.plain.read_free.Goals as goal

pub returns : goal.returns
returns c =
    let pool = c.in_ok-pool in
    let cell = c.in_ok-cell in
    let address = cell.ensures in
    free_line c.args.field.now c.args.task c.name.result (Named c.name-2.result c.new.result) pool.pool.now pool.rest.now cell.cell.now address.0 cell.rest.now cell.offset
    pool.ensures c.name.ensures address.1 (λ i. Named (c.name-2.ensures i) (c.new.ensures i)) (sym c.is_remark.ensures ∙ c.if-not-is_remark.false)
