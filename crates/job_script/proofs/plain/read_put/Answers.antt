use Rattle.std.proofs.Common.{sym, ◌∙◌}
use Rattle.mvs_model.specs.declared.line.Location.TheVariants.{Named}
use Rattle.job_script.proofs.PlainLines.{put_line, some_bytes}
use Rattle.job_script.proofs.plain.read_put.Goals as goal

pub bytes-requires : goal.bytes-requires
bytes-requires c = some_bytes c.in_ok-rest.rest.now c.in_ok-quoted.quoted.now c.in_ok-quoted.rest.now c.in_ok-quoted.ensures

pub returns : goal.returns
returns c =
    let area = c.in_ok-area in
    let address = area.ensures in
    let quoted = c.in_ok-quoted in
    put_line c.args.field.now c.args.task (Named c.name.result c.new.result) c.bytes.result area.area.now address.0 area.rest.now c.in_ok-rest.rest.now quoted.quoted.now quoted.rest.now
    area.offset address.1 (λ i. Named (c.name.ensures i) (c.new.ensures i)) c.in_ok-rest.ensures quoted.ensures c.bytes.ensures (sym c.is_remark.ensures ∙ c.if-not-is_remark.false)
