use Rattle.mvs_job.proofs.Tracing.{runs_have_traces}
use Rattle.mvs_job.proofs.laws.runs_have_traces.Goals as goal

pub returns : goal.returns
returns c = runs_have_traces
