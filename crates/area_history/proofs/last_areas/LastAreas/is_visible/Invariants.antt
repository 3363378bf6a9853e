use Rattle.std.proofs.Common.{◌≡◌, ◌+◌, ◌&&◌, ℕ, true, false}
use Rattle.std.specs.Prelude.{nat_le, nat_lt}
use Rattle.area_history.specs.LastAreas.{is_last}
use Rattle.area_history.proofs.last_areas.LastAreas.is_visible.Given as goal

abbrev pub invariant-loop-k : goal.invariant-loop-k
invariant-loop-k l = (d : ℕ) → (nat_le l.first d && nat_lt d (l.first + l.k)) ≡ true → is_last l.self l.number d ≡ false
