use Rattle.std.proofs.Common.{◌≡◌, ◌+◌, ◌∷◌, arith, sym, ap, subst, ◌∙◌, false, length, Some, None}
use Rattle.std.specs.Prelude.{not}
use Rattle.mvs_model.specs.Reading.{operands_after_form, is_empty, parts_within, row_of}
use Rattle.job_script.specs.Operations.{operation_text}
use Rattle.job_script.specs.Parted.{field_in}
use Rattle.job_script.specs.Rows.{row_at}
use Rattle.job_script.proofs.Rowing.{after_one}
use Rattle.job_script.proofs.Taking.{some_operand}
use Rattle.diagnosis.specs.Blame.{before, form_before}
use Rattle.diagnosis.specs.AfterForm.{AreAfterForm}
use Rattle.diagnosis.proofs.Lines.{same_row, one_form}
use Rattle.diagnosis.proofs.operands.operands_after_form.Goals as goal

pub returns-in_default-clause-operands : goal.returns-in_default-clause-operands
returns-in_default-clause-operands c row is =
    let op = operation_text c.args.field.now.operation in
    let form = c.next_operand.result.0.now in
    let more = some_operand (parts_within 0 (field_in c.args.field.now.text.now)) form c.next_operand.result.1 c.next_operand.ensures.parts in
    let none : None ≡ Some row = sym c.in_default.ensures.row ∙ sym (same_row op form more.0) ∙ ap (row_of op) (sym more.1) ∙ is in
    absurd cc

pub returns-clause-operands : goal.returns-clause-operands
returns-clause-operands c row is =
    let op = operation_text c.args.field.now.operation in
    let os = parts_within 0 (field_in c.args.field.now.text.now) in
    let form = c.next_operand.result.0.now in
    let trailing = parts_within 0 (field_in c.in-Some-rest.text.now) in
    let here = row_at c.in-Some.row in
    let parts : os ≡ form ∷ trailing = rw c.in-Some-rest.is at c.next_operand.ensures.parts in
    let formed : is_empty here.forms ≡ false = c.in-Some.ensures.formed ∙ ap not c.requires.formed in
    let some : Some here ≡ Some row = sym c.in-Some.ensures.row ∙ sym (same_row op form trailing) ∙ ap (row_of op) (sym parts) ∙ is in
    let same : here ≡ row = cc in
    let long = one_form here form os trailing formed parts in
    let at = c.args.field.now.at in (
      same,
      subst (λ r. AreAfterForm r at os (at + length form + 1) c.in-Some-rest.text.now) same (record {
        parts = ap (operands_after_form here) parts ∙ after_one here form trailing formed;
        place = let e : at + length form + 1 ≡ at + before (form_before here os) = omega (arith, long) in e;
      }),
    )
