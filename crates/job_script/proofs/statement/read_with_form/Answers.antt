use Rattle.std.proofs.Common.{◌≡◌, ◌∷◌, refl, sym, ap, subst, ◌∙◌, true, false, Err}
use Rattle.std.specs.Prelude.{not}
use Rattle.mvs_model.specs.declared.line.Fault.TheVariants.{UnknownOperation, MissingOperand}
use Rattle.mvs_model.specs.Reading.{operands_in, has_key, is_empty}
use Rattle.job_script.specs.GivenOperands.{field_now}
use Rattle.job_script.specs.Operations.{operation_text}
use Rattle.job_script.specs.Parted.{field_in}
use Rattle.job_script.specs.Rowed.{FormReading}
use Rattle.job_script.specs.Rows.{row_at}
use Rattle.job_script.specs.LineMeaning.{filled}
use Rattle.job_script.proofs.Rowing.{form_parts, form_there, form_unknown, form_known, after_one}
use Rattle.job_script.proofs.FormTexts.{form_plain, form_keyed}
use Rattle.job_script.proofs.statement.read_with_form.Goals as goal

pub returns-then-has_key : goal.returns-then-has_key
returns-then-has_key c =
    let op = operation_text c.args.operation in
    let form = c.next_operand.result.0.now in
    let trailing = operands_in (field_now c.next_operand.result.1) in
    let parts = form_parts (field_in c.args.field.now) form c.next_operand.result.1 (sym c.is_empty.ensures ∙ c.if-is_empty.false) c.next_operand.ensures.parts in
    let keyed : has_key form ≡ true = sym c.has_key.ensures ∙ c.if-has_key.true in
    subst (λ os. FormReading op c.args.task os (Err MissingOperand)) (sym parts) (form_keyed op c.args.task form trailing c.requires keyed)

pub returns-in_default : goal.returns-in_default
returns-in_default c =
    let op = operation_text c.args.operation in
    let form = c.next_operand.result.0.now in
    let trailing = operands_in (field_now c.next_operand.result.1) in
    let parts = form_parts (field_in c.args.field.now) form c.next_operand.result.1 (sym c.is_empty.ensures ∙ c.if-is_empty.false) c.next_operand.ensures.parts in
    let plain : has_key form ≡ false = sym c.has_key.ensures ∙ c.if-has_key.false in
    subst (λ os. FormReading op c.args.task os (Err UnknownOperation)) (sym parts) (form_unknown op c.args.task (form ∷ trailing) (form_there op form trailing plain) c.in_default.ensures.row)

pub returns : goal.returns
returns c =
    let op = operation_text c.args.operation in
    let form = c.next_operand.result.0.now in
    let trailing = operands_in (field_now c.next_operand.result.1) in
    let parts = form_parts (field_in c.args.field.now) form c.next_operand.result.1 (sym c.is_empty.ensures ∙ c.if-is_empty.false) c.next_operand.ensures.parts in
    let formed : is_empty (row_at c.in-Some.row).forms ≡ false = c.in-Some.ensures.formed ∙ ap not c.requires in
    let plain : has_key form ≡ false = form_plain c.args.operation form c.in-Some.row c.in-Some.ensures.row formed in
    subst (λ os. FormReading op c.args.task os (filled c.read_row.new.line c.read_row.result)) (sym parts)
    (form_known op c.args.task (form ∷ trailing) trailing form (row_at c.in-Some.row) (filled c.read_row.new.line c.read_row.result) (form_there op form trailing plain) c.in-Some.ensures.row (after_one (row_at c.in-Some.row) form trailing formed) refl c.read_row.ensures)
