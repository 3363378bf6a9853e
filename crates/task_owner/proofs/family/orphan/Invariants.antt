use Rattle.std.proofs.Common.{◌≡◌, ℕ, Some, None}
use Rattle.slab.specs.Slab.{get}
use Rattle.task_owner.proofs.Found.{Unseen}
use Rattle.task_owner.proofs.family.orphan.Given as goal

abbrev pub invariant-loop-key : goal.invariant-loop-key
invariant-loop-key l = Unseen l.active (λ x. (m : ℕ) × (x.mother ≡ Some m) × (get l.active m ≡ None)) l.key-iterator
