use Rattle.std.proofs.Common.{◌≡◌, [], ap, subst, ◌∙◌, true}
use Rattle.std.specs.Prelude.{not}
use Rattle.mvs_model.specs.Reading.{operands_in, form_in, is_empty, by_key}
use Rattle.job_script.specs.Operations.{operation_text}
use Rattle.job_script.specs.Parted.{field_in}
use Rattle.job_script.specs.Rowed.{RowReading, as_field}
use Rattle.job_script.specs.Rows.{row_at}
use Rattle.job_script.specs.LineMeaning.{filled}
use Rattle.job_script.proofs.Rowing.{none_missing, row_alone, beyond_none, formless, form_known}
use Rattle.job_script.proofs.statement.read_without_form.Goals as goal

pub returns : goal.returns
returns c =
    let op = operation_text c.args.operation in
    let row = row_at c.in-Some.row in
    let os = operands_in (as_field (field_in c.args.field.now)) in
    let formed : is_empty row.forms ≡ true = c.in-Some.ensures.formed ∙ ap not c.requires in
    let reading = subst (λ f. RowReading row c.args.task [] (operands_in f) (filled c.read_row.new.line c.read_row.result)) c.as_field.ensures c.read_row.ensures in
    form_known op c.args.task os os [] row (filled c.read_row.new.line c.read_row.result) (none_missing op os c.requires) (row_alone c.args.operation c.requires os ∙ c.in-Some.ensures.row) (beyond_none row os formed)
    (formless c.in-Some.row formed (form_in op os) [] (by_key os)) reading
