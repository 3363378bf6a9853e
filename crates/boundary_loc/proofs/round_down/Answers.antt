use Rattle.boundary_loc.proofs.Multiples.{rounded_down}
use Rattle.boundary_loc.proofs.round_down.Goals as goal

pub returns : goal.returns
returns c = rounded_down c.args.number c.args.unit c.requires.some
