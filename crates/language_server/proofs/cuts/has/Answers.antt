use Rattle.std.proofs.Common.{refl, ◌∙◌}
use Rattle.expected_answers.specs.ExpectedAnswers.{after_place}
use Rattle.language_server.proofs.Parted.{has_after}
use Rattle.language_server.proofs.TakenLines.{mapped}
use Rattle.language_server.proofs.cuts.has.Goals as goal

pub returns : goal.returns
returns c =
    c.is_some.ensures ∙ mapped c.after.result _ c.after.ensures ∙ has_after c.args.part.now c.args.text.now (after_place c.args.part.now c.args.text.now) refl
