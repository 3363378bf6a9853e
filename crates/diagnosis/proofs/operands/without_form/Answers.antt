use Rattle.std.proofs.Common.{◌≡◌, ◌+◌, arith, sym, ap, subst, ◌∙◌, true, Some}
use Rattle.std.specs.Prelude.{not}
use Rattle.mvs_model.specs.Reading.{is_empty, parts_within}
use Rattle.job_script.specs.Parted.{field_in}
use Rattle.job_script.specs.Rows.{row_at}
use Rattle.job_script.proofs.Rowing.{row_alone, beyond_none}
use Rattle.diagnosis.specs.Blame.{before, form_before}
use Rattle.diagnosis.specs.AfterForm.{AreAfterForm}
use Rattle.diagnosis.proofs.Lines.{no_form}
use Rattle.diagnosis.proofs.operands.without_form.Goals as goal

pub returns-clause-operands : goal.returns-clause-operands
returns-clause-operands c row is =
    let os = parts_within 0 (field_in c.args.field.now.text.now) in
    let here = row_at c.in-Some.row in
    let formed : is_empty here.forms ≡ true = c.in-Some.ensures.formed ∙ ap not c.requires in
    let some : Some here ≡ Some row = sym (row_alone c.args.field.now.operation c.requires os ∙ c.in-Some.ensures.row) ∙ is in
    let same : here ≡ row = cc in
    let none = no_form here os formed in
    (same, subst (λ r. AreAfterForm r c.args.field.now.at os c.args.field.now.at c.args.field.now.text.now) same (record { parts = beyond_none here os formed; place = let e : c.args.field.now.at ≡ c.args.field.now.at + before (form_before here os) = omega (arith, none) in e }))
