use Rattle.std.proofs.Common.{inl, inr, subst, sym}
use Rattle.mvs_model.specs.Causes.{IsRefused}
use Rattle.mvs_model.specs.Consequences.{Settles, reply_to}
use Rattle.job_step.proofs.step.Step.request.Goals as goal

pub settle-requires : goal.settle-requires
settle-requires c = subst (λ st. IsRefused st c.args.name.now c.args.request.now c.in-Err.refusal) (sym c.in-Err.ensures.attempt.1) c.in-Err.ensures.attempt.0

pub returns-in-Ok-clause-step : goal.returns-in-Ok-clause-step
returns-in-Ok-clause-step c = inr c.in-Ok.ensures.attempt

pub returns-in-Err-clause-step : goal.returns-in-Err-clause-step
returns-in-Err-clause-step c = inl (
  c.in-Err.refusal,
  c.in-Err.ensures.attempt.0,
  subst (λ st. Settles st c.args.name.now (reply_to c.args.request.now c.in-Err.refusal) c.settle.new.reply c.settle.new.self.state) c.in-Err.ensures.attempt.1 c.settle.ensures.settled,
)
