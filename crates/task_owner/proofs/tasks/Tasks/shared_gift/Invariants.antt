use Rattle.std.proofs.Common.{◌≡◌, ◌≤◌, ◌-◌, false}
use Rattle.mvs_model.specs.Finite.{any_below}
use Rattle.task_owner.specs.Tasks.{name_of}
use Rattle.task_owner.specs.Handing.{is_shared_gift}
use Rattle.task_owner.proofs.tasks.Tasks.shared_gift.Given as goal

abbrev pub invariant-given : goal.invariant-given
invariant-given l = record {
  within : l.from ≤ 128;
  none : any_below (is_shared_gift l.self.owners (name_of l.self l.mother) l.gifts) l.from ≡ false;
}

abbrev pub decreases-given : goal.decreases-given
decreases-given l = 128 - l.from
