use Rattle.job_step.proofs.step.Step.map_run.Goals as goal

pub returns : goal.returns
returns c = rw (← c.self.view_is) c.map_run.ensures
