use Rattle.std.proofs.Common.{◌∙◌, ◌∷◌, ◌++◌, [], ap}
use Rattle.mvs_model.specs.Answers.{Region}
use Rattle.event_json.proofs.Written.{if_ok, region_lines}
use Rattle.event_json.proofs.region_lines.Goals as goal

pub returns : goal.returns
returns c =
    if_ok c.into_line.result _ _ c.into_line.ensures
    (λ lines closed. region_lines c.args.ended c.args.line.now.number c.args.card.now.name (Region c.args.card.now) lines.items closed.0 (closed.1 ∙ ap (λ h. h ++ closed.0 ++ 10 ∷ []) c.in_ok-members.ensures))
