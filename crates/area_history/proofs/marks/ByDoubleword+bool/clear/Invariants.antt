use Rattle.std.proofs.Common.{◌≡◌, ◌+◌, ◌&&◌, ℕ, not, length}
use Rattle.std.specs.Prelude.{nat_le, nat_lt}
use Rattle.area_history.specs.Leaking.{has_room, is_marked}
use Rattle.area_history.proofs.marks.ByDoubleword+bool.clear.Given as goal

abbrev pub invariant-loop-k : goal.invariant-loop-k
invariant-loop-k l = record {
  marks : (d : ℕ) → is_marked l.self d ≡ (not (nat_le l.first d && nat_lt d (l.first + l.k)) && is_marked l.initial.self d);
  room : (d : ℕ) → has_room l.self d ≡ has_room l.initial.self d;
}
