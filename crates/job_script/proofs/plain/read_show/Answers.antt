use Rattle.std.proofs.Common.{sym, ◌∙◌}
use Rattle.mvs_model.specs.declared.line.Location.TheVariants.{Named}
use Rattle.job_script.proofs.PlainLines.{show_line}
use Rattle.job_script.proofs.plain.read_show.Goals as goal

pub returns : goal.returns
returns c =
    let area = c.in_ok-area in
    let address = area.ensures in
    let len = c.in_ok-len in
    let count = len.ensures in
    show_line c.args.field.now c.args.task (Named c.name.result c.new.result) c.new-2.result len.len area.area.now address.0 area.rest.now c.in_ok-rest.rest.now count.0 len.rest.now
    area.offset address.1 (λ i. Named (c.name.ensures i) (c.new.ensures i)) c.in_ok-rest.ensures count.1 c.new-2.ensures (sym c.is_remark.ensures ∙ c.if-not-is_remark.false)
