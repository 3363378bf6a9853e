use Rattle.mvs_job.proofs.Tracing.{traces_are_runs}
use Rattle.mvs_job.proofs.laws.traces_are_runs.Goals as goal

pub returns : goal.returns
returns c = traces_are_runs
