use Rattle.mvs_model.specs.Reading.{parts_within}
use Rattle.job_script.specs.Operations.{operation_text}
use Rattle.job_script.specs.Parted.{field_in}
use Rattle.diagnosis.proofs.Lines.{line_after, row_line}
use Rattle.diagnosis.proofs.operands.operands_in.Goals as goal

pub returns-then-takes_form-clause-operands : goal.returns-then-takes_form-clause-operands
returns-then-takes_form-clause-operands c row is =
    let f = c.in-Some.ensures.field in
    let line = c.args.line.now in
    let text = c.in-Some.field.text.now in
    let os = parts_within 0 (field_in text) in
    line_after row line c.operands_after_form.result c.in-Some.field.at text os f.1 f.2 (c.operands_after_form.ensures.operands row (row_line line (operation_text c.in-Some.field.operation) os row f.0 f.2 is))

pub returns-else-takes_form-clause-operands : goal.returns-else-takes_form-clause-operands
returns-else-takes_form-clause-operands c row is =
    let f = c.in-Some.ensures.field in
    let line = c.args.line.now in
    let text = c.in-Some.field.text.now in
    let os = parts_within 0 (field_in text) in
    line_after row line c.without_form.result c.in-Some.field.at text os f.1 f.2 (c.without_form.ensures.operands row (row_line line (operation_text c.in-Some.field.operation) os row f.0 f.2 is))
