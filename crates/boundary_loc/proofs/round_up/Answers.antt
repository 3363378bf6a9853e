use Rattle.boundary_loc.proofs.Multiples.{rounded}
use Rattle.boundary_loc.proofs.round_up.Goals as goal

pub returns-clause-least : goal.returns-clause-least
returns-clause-least c = rounded c.args.number c.args.unit c.requires.some
