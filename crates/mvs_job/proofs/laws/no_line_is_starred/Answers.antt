use Rattle.mvs_job.proofs.RunNames.{no_line_starred}
use Rattle.mvs_job.proofs.laws.no_line_is_starred.Goals as goal

pub returns : goal.returns
returns c = no_line_starred c.well_formed-2.ensures
