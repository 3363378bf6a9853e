use Rattle.std.proofs.Common.{◌++◌, ap, sym, ◌∙◌}
use Rattle.std.proofs.lemmas.List.{append-nil}
use Rattle.mvs_model.specs.Reading.{rows_of}
use Rattle.language_server.proofs.Hovering.{field_added, no_field, on_ok}
use Rattle.language_server.proofs.document.Document.push_field.Goals as goal

pub returns-in-Some : goal.returns-in-Some
returns-in-Some c =
    on_ok c.push_operation_field.result
    (field_added c.args.self.now c.args.spot c.args.report.now c.args.found.now.items c.push_operation_field.new.found.items c.in-Some.operation (sym c.spot_operation.ensures ∙ c.in-Some.ensures))
    c.push_operation_field.ensures

pub returns-in-None : goal.returns-in-None
returns-in-None c =
    sym (append-nil c.args.found.now.items)
    ∙ ap (λ ps. c.args.found.now.items ++ ps) (sym (no_field c.args.self.now c.args.spot c.args.report.now (ap rows_of (sym c.spot_operation.ensures) ∙ c.in-None.ensures)))
