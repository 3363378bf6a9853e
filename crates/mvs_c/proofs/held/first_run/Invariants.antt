use Rattle.std.proofs.Common.{ℕ, ◌<◌, ◌≤◌}
use Rattle.mvs_c.specs.Held.{BeginsNoRun}
use Rattle.mvs_c.proofs.held.first_run.Given as goal

abbrev pub invariant-loop-d : goal.invariant-loop-d
invariant-loop-d l = (d : ℕ) → l.from ≤ d → d < l.d → BeginsNoRun l.machine.state d
