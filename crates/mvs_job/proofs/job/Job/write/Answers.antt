use Rattle.mvs_job.proofs.Steady.{steady_write}
use Rattle.mvs_job.proofs.job.Job.write.Goals as goal

-- the state after bytes are written
pub invariant_of-self : goal.invariant_of-self
invariant_of-self c = steady_write c.write.result c.self.inside.step.state c.args.place c.args.bytes.now c.write.new.self.state c.requires c.write.ensures.written c.self.invariant
