use Rattle.std.proofs.Common.{◌≡◌, ◌+◌, ◌&&◌, ℕ}
use Rattle.std.specs.Prelude.{nat_le, nat_lt}
use Rattle.area_history.specs.Leaking.{has_room}
use Rattle.area_history.specs.ReleaseIndex.{later_releases, releases_at}
use Rattle.area_history.proofs.release_index.ReleaseIndex.put.Given as goal

abbrev pub invariant-loop-k : goal.invariant-loop-k
invariant-loop-k l = record {
  releases : (d : ℕ) → releases_at l.self d ≡ later_releases (nat_le l.first d && nat_lt d (l.first + l.k)) l.number (releases_at l.initial.self d);
  room : (d : ℕ) → has_room l.self.releases d ≡ has_room l.initial.self.releases d;
  count : l.self.count ≡ l.initial.self.count;
  kept : l.self.owners ≡ l.initial.self.owners;
}
