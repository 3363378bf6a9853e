use Rattle.std.proofs.Common.{◌≡◌, ◌-◌, ◌++◌, ◌≤◌, List, drop, length, true}
use Rattle.std.specs.Prelude.{IfSome, slice_get}
use Rattle.schedules.specs.declared.search.StepSchedules.{StepSchedules}
use Rattle.schedules.specs.Scripts.{AreSteps}
use Rattle.schedules.proofs.exploring.explore.Given as goal

abbrev pub invariant-steps : goal.invariant-steps
invariant-steps l = record {
  within : l.at ≤ length l.lines.items;
  region : IfSome (slice_get l.lines.items l.at) (λ x. x.is_region ≡ true);
  steps : (more : List StepSchedules) → AreSteps l.most (drop l.at l.lines.items) more → AreSteps l.most l.lines.items (l.steps.items ++ more);
}

abbrev pub decreases-steps : goal.decreases-steps
decreases-steps l = length l.lines.items - l.at
