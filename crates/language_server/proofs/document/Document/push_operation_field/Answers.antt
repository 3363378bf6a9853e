use Rattle.std.proofs.Common.{◌≡◌, ◌∷◌, [], ap, sym, ◌∙◌}
use Rattle.mvs_model.specs.Reading.{row_of}
use Rattle.job_script.specs.Operations.{operation_text}
use Rattle.language_server.specs.Hovers.{spot_field}
use Rattle.language_server.specs.Names.{form_word}
use Rattle.language_server.proofs.document.Document.push_operation_field.Goals as goal

pub push_operand-requires-clause-row : goal.push_operand-requires-clause-row
push_operand-requires-clause-row c =
    let form : c.field_form-form.result.now ≡ form_word (spot_field c.args.self.now c.args.spot) = c.field_form-form.ensures ∙ ap form_word c.spot_field-field.ensures.field in
    sym c.row.ensures.row
    ∙ ap (λ f. row_of (operation_text c.args.operation) (f ∷ [])) form
    ∙ ap (λ w. row_of w (form_word (spot_field c.args.self.now c.args.spot) ∷ [])) (sym c.requires.operation)
