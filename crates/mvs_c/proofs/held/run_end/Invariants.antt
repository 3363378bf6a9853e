use Rattle.std.proofs.Common.{ℕ, ◌<◌, ◌≤◌}
use Rattle.mvs_model.specs.Reasons.{Holds}
use Rattle.mvs_c.proofs.held.run_end.Given as goal

abbrev pub invariant-loop-d : goal.invariant-loop-d
invariant-loop-d l = (d : ℕ) → l.first ≤ d → d < l.d → Holds l.machine.state d l.holder
