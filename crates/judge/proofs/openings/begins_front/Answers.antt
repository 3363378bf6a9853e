use Rattle.std.proofs.Common.{◌++◌, ◌∙◌, ap}
use Rattle.judge.proofs.Answering.{begun}
use Rattle.judge.proofs.openings.begins_front.Goals as goal

pub returns : goal.returns
returns c = begun _ _ _ c.begins.result (c.as_slice.ensures.value ∙ c.in_ok-all.ensures ∙ ap (λ x. x ++ c.args.front.now) c.in_ok-text.ensures) c.begins.ensures.yes c.begins.ensures.no
