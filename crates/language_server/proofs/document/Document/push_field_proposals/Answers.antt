use Rattle.std.proofs.Common.{◌++◌, ap, sym, ◌∙◌}
use Rattle.std.proofs.lemmas.List.{append-nil}
use Rattle.mvs_model.specs.Reading.{rows_of}
use Rattle.language_server.specs.Hovers.{spot_operation}
use Rattle.language_server.proofs.Completing.{no_operation}
use Rattle.language_server.proofs.document.Document.push_field_proposals.Goals as goal

pub returns-in-None : goal.returns-in-None
returns-in-None c =
    sym (append-nil c.args.proposals.now)
    ∙ ap (λ ps. c.args.proposals.now ++ ps)
    (sym (no_operation c.args.self.now c.args.spot (spot_operation c.args.self.now c.args.spot) (ap rows_of (sym c.spot_operation.ensures) ∙ c.in-None.ensures)))
