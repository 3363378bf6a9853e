use Rattle.std.proofs.Common.{[], ◌∷◌}
use Rattle.judge.specs.Outline.{abend_opening}
use Rattle.judge.proofs.Begun.{more_begun, one_begun}
use Rattle.judge.proofs.openings.begins_either.Goals as goal

pub returns : goal.returns
returns c =
    let f = abend_opening c.args.code in
    more_begun c.args.continued.now.line_number c.args.continued.now.task c.args.continued.now.text.now c.args.granted.now (f ∷ []) _ _ c.in_ok-is_granted.ensures (one_begun c.args.continued.now.line_number c.args.continued.now.task c.args.continued.now.text.now f _ c.in_ok-is_abend.ensures)
