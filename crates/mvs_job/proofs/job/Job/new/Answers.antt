use Rattle.std.proofs.Common.{ap, sym, subst}
use Rattle.mvs_job.specs.Steady.{IsSteady}
use Rattle.mvs_job.proofs.Steady.{steady_start}
use Rattle.mvs_job.proofs.job.Job.new.Goals as goal

pub invariant_of-result : goal.invariant_of-result
invariant_of-result c =
    subst IsSteady (sym (ap (λ s. s.state) c.in_ok-step.ensures))
    (steady_start c.args.card.now c.requires (record { below = c.requires.below_most; above = c.requires.above_most }))
