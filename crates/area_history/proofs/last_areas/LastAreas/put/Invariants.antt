use Rattle.std.proofs.Common.{◌≡◌, ◌+◌, ◌&&◌, ℕ, true, false, length}
use Rattle.std.specs.Prelude.{nat_le, nat_lt}
use Rattle.area_history.specs.Leaking.{has_room}
use Rattle.area_history.specs.LastAreas.{is_last, is_whole, numbers_at}
use Rattle.area_history.proofs.Indexing.{put_if}
use Rattle.area_history.proofs.last_areas.LastAreas.put.Given as goal

abbrev pub invariant-loop-k : goal.invariant-loop-k
invariant-loop-k l = record {
  numbers : (d : ℕ) → numbers_at l.self d ≡ put_if (nat_le l.first d && nat_lt d (l.first + l.k)) l.number (numbers_at l.initial.self d);
  room : (d : ℕ) → has_room l.self.numbers d ≡ has_room l.initial.self.numbers d;
  whole : (n : ℕ) → is_whole l.self n ≡ true → (is_whole l.initial.self n ≡ true) × ((d : ℕ) → (nat_le l.first d && nat_lt d (l.first + l.k)) ≡ true → is_last l.initial.self n d ≡ false);
  count : l.self.count ≡ l.initial.self.count;
  len : length l.self.whole.items ≡ length l.initial.self.whole.items;
  visible : l.self.visible ≡ l.initial.self.visible;
}
