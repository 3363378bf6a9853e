use Rattle.mvs_job.proofs.Strictly.{strict_err, strict_ok}
use Rattle.mvs_job.proofs.strict.run_strictly.Goals as goal

pub returns-clause-run : goal.returns-clause-run
returns-clause-run g c = strict_ok _ _ _ _ c.args.script.now c.run_observed.result c.run_observed.ensures.run

pub returns-clause-stop : goal.returns-clause-stop
returns-clause-stop g c = strict_err _ _ c.args.script.now c.run_observed.result c.run_observed.ensures.stop
