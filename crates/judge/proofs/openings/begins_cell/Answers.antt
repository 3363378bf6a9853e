use Rattle.std.proofs.Common.{[], ◌∷◌, codes}
use Rattle.judge.proofs.Begun.{more_begun, one_begun}
use Rattle.judge.proofs.openings.begins_cell.Goals as goal

pub returns : goal.returns
returns c =
    more_begun c.args.continued.now.line_number c.args.continued.now.task c.args.continued.now.text.now (codes "CELL\n") (codes "NO CELL\n" ∷ []) _ _ c.in_ok-is_granted.ensures (one_begun c.args.continued.now.line_number c.args.continued.now.task c.args.continued.now.text.now (codes "NO CELL\n") _ c.in_ok-is_refused.ensures)
