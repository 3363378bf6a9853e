use Rattle.std.proofs.Common.{◌∙◌, ◌∷◌, ◌++◌, [], ap}
use Rattle.event_json.proofs.Written.{if_ok}
use Rattle.event_json.proofs.answer_line.Goals as goal

pub returns : goal.returns
returns c = if_ok c.into_line.result _ _ c.into_line.ensures (λ text closed. (closed.0, closed.1 ∙ ap (λ h. h ++ closed.0 ++ 10 ∷ []) c.in_ok-members.ensures))
