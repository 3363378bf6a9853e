use Rattle.std.proofs.Common.{inl, inr, subst}
use Rattle.mvs_model.specs.Consequences.{Settles, reply_to}
use Rattle.mvs_job.proofs.Steady.{steady_request}
use Rattle.mvs_job.proofs.job.Job.settle_or_do.Goals as goal

-- the state after a request that is done
pub invariant_of-self : goal.invariant_of-self
invariant_of-self g c = steady_request c.self.inside.step.state c.args.task.now c.args.request.now c.attempt.new.reply c.attempt.new.self.state c.builds_in_range.ensures (inr c.in-Ok.ensures.attempt) c.self.invariant

-- and after one that is settled
pub invariant_of-self-in-Err-2 : goal.invariant_of-self-in-Err-2
invariant_of-self-in-Err-2 g c =
    let old = c.self.inside.step.state in
    let t = c.args.task.now in
    let request = c.args.request.now in
    let refusal = c.in-Err.refusal in
    let settled = subst (λ st. Settles st t (reply_to request refusal) c.settle.new.reply c.settle.new.self.state) c.in-Err.ensures.attempt.1 c.settle.ensures.settled in
    steady_request old t request c.settle.new.reply c.settle.new.self.state c.builds_in_range.ensures (inl (refusal, c.in-Err.ensures.attempt.0, settled)) c.self.invariant
