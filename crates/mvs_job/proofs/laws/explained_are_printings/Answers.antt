use Rattle.mvs_job.proofs.Starred.{explained_are}
use Rattle.mvs_job.proofs.laws.explained_are_printings.Goals as goal

pub returns : goal.returns
returns c = explained_are c.no_line_is_starred.ensures
