use Rattle.task_owner.proofs.task_slot.no_owners.Goals as goal
use Rattle.std.proofs.Common.{Option, None, Some, ◌≡◌, refl}
use Rattle.task_owner.specs.declared.task_slot.Owned.{Owned}

split : (P : Option Owned → Type 0) → (P None → ◌≡◌ {A = Option Owned} None None) → ((o : Owned) → P (Some o) → ◌≡◌ {A = Option Owned} (Some o) None) → (y : Option Owned) → P y → y ≡ None
split P f g None h = f h
split P f g (Some o) h = g o h

pub returns : goal.returns
returns c = c.in_ok-owned.ensures.items_if_clones_equal (split _ (λ _. refl) (λ o h. absurd h))
