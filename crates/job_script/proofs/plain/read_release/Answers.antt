use Rattle.std.proofs.Common.{sym, ◌∙◌}
use Rattle.mvs_model.specs.declared.line.Location.TheVariants.{Named}
use Rattle.job_script.proofs.PlainLines.{release_line}
use Rattle.job_script.proofs.plain.read_release.Goals as goal

pub returns : goal.returns
returns c =
    let form = c.in_ok-form in
    let sized = form.ensures in
    let area = c.in_ok-area in
    let address = area.ensures in
    let subpool = c.in_ok-number in
    release_line c.args.field.now c.args.task form.form form.len sized.0 form.rest.now area.area.now address.0 area.rest.now area.offset
    (Named c.name.result c.new.result) c.new-2.result subpool.number subpool.ensures.0 subpool.rest.now sized.1 address.1 (λ i. Named (c.name.ensures i) (c.new.ensures i)) c.new-2.ensures subpool.ensures.1
    (sym c.is_remark.ensures ∙ c.if-not-is_remark.false)
