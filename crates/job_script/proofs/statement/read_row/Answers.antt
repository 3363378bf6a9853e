use Rattle.std.proofs.Common.{sym, ap, ◌∙◌}
use Rattle.std.proofs.lemmas.Result.{err_from_is_err_and}
use Rattle.std.specs.Prelude.{flat_map}
use Rattle.mvs_model.specs.Reading.{operands_in, first_of, operand_checks, with_left}
use Rattle.job_script.specs.GivenOperands.{field_now}
use Rattle.job_script.specs.Kinds.{fault_in}
use Rattle.job_script.specs.Rows.{row_at}
use Rattle.job_script.specs.LineMeaning.{filled}
use Rattle.job_script.proofs.Rowing.{row_not_taken, row_lacks, row_said, none_conflict}
use Rattle.job_script.proofs.statement.read_row.Goals as goal

pub returns-in_err-take_field : goal.returns-in_err-take_field
returns-in_err-take_field c =
    let os = operands_in (field_now c.args.field) in
    let p = err_from_is_err_and c.from_residual.result c.from_residual.ensures.1 in
    rw (p.1, p.2) (row_not_taken (row_at c.args.row) c.args.task c.args.form.now os _ (ap (λ r. first_of (flat_map (operand_checks (row_at r)) (with_left os))) (sym c.none-given.ensures.row) ∙ c.in_err-take_field.ensures))

pub returns-in_err-check : goal.returns-in_err-check
returns-in_err-check c =
    let p = err_from_is_err_and c.from_residual-in_err-check.result c.from_residual-in_err-check.ensures.1 in
    rw (p.1, p.2) (row_lacks c.take_field.new.self c.args.row c.args.task c.args.form.now (operands_in (field_now c.args.field)) _ c.in_ok-take_field.ensures.0 (c.in_ok-take_field.ensures.1 ∙ c.none-given.ensures.row)
    (sym c.check.ensures ∙ ap fault_in c.in_err-check.was))

pub returns : goal.returns
returns c =
    row_said c.take_field.new.self c.args.row c.args.task c.args.form.now (operands_in (field_now c.args.field)) (filled c.fill.new.line c.fill.result) c.in_ok-take_field.ensures.0 (c.in_ok-take_field.ensures.1 ∙ c.none-given.ensures.row)
    (sym c.check.ensures ∙ ap fault_in c.in_ok-check.was) c.fill.ensures

pub fill-requires-clause-apart : goal.fill-requires-clause-apart
fill-requires-clause-apart c = none_conflict _ _ (sym c.check.ensures ∙ ap fault_in c.in_ok-check.was)
