use Rattle.std.proofs.Common.{sym, ◌∙◌, None}
use Rattle.job_script.proofs.PlainLines.{obtain_line}
use Rattle.job_script.proofs.plain.read_obtain.Goals as goal

pub returns : goal.returns
returns c =
    let form = c.in_ok-form in
    let sized = form.ensures in
    let area = c.in_ok-area in
    let subpool = c.in_ok-number in
    let place = c.in_ok-loc in
    obtain_line c.args.field.now c.args.task form.form form.len sized.0 form.rest.now area.area.now area.rest.now c.name.result subpool.number subpool.ensures.0
    subpool.rest.now place.loc place.rest.now c.fixed.result sized.1 area.ensures c.name.ensures subpool.ensures.1 place.ensures.0 place.ensures.1 (sym c.is_remark.ensures ∙ c.if-not-is_remark.false)
    (c.fixed.ensures ∙ (λ i. record { least = c.new.ensures i; most = c.new.ensures i; start = c.new-2.ensures i; within = None; loc = place.loc }))
