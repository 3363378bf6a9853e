use Rattle.std.proofs.Common.{◌≡◌, ◌≤◌, ◌+◌, ◌&&◌, ◌||◌, ℕ, not, length}
use Rattle.std.specs.Prelude.{nat_le, nat_lt}
use Rattle.mvs_model.specs.Finite.{count_below}
use Rattle.area_history.specs.Leaking.{has_room, is_marked}
use Rattle.area_history.proofs.marks.ByDoubleword+bool.take.Given as goal

abbrev pub invariant-loop-k : goal.invariant-loop-k
invariant-loop-k g l = record {
  few : l.left ≤ l.k;
  counted : l.left ≡ count_below l.k (λ k. g.P.Holdings.plain l.step (l.first + k) && not (is_marked l.initial.self (l.first + k)));
  marks : (d : ℕ) → is_marked l.self d ≡ ((nat_le l.first d && nat_lt d (l.first + l.k)) || is_marked l.initial.self d);
  room : (d : ℕ) → has_room l.self d ≡ has_room l.initial.self d;
}
