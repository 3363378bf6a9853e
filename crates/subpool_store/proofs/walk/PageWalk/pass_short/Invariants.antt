use Rattle.std.proofs.Common.{◌≡◌, ◌≤◌, ◌+◌, ◌-◌, ◌*◌, ◌/◌, length}
use Rattle.subpool_store.specs.Search.{may_take, NoneFits}
use Rattle.subpool_store.specs.PageWalk.{IsInside, IsWalk}
use Rattle.subpool_store.proofs.Passed.{walk_at}
use Rattle.subpool_store.proofs.walk.PageWalk.pass_short.Given as goal

abbrev pub invariant-runs : goal.invariant-runs
invariant-runs l = record {
  walk : IsWalk l.memory l.pages l.subpool (walk_at (512 * l.page + l.passed / 8) l.self.entry l.self.queue l.self.counted);
  own : IsInside l.pages l.subpool (walk_at (512 * l.page + l.passed / 8) l.self.entry l.self.queue l.self.counted);
  page : (512 * l.page + l.passed / 8) / 512 ≡ l.page;
  counted : l.counted ≡ l.self.counted;
  after : l.fn.self.end ≤ 512 * l.page + l.passed / 8;
  none : NoneFits (may_take l.memory.held l.pages l.subpool) l.least l.fn.self.start (512 * l.page + l.passed / 8);
}

abbrev pub decreases-runs : goal.decreases-runs
decreases-runs l = length l.memory.held - (512 * l.page + l.passed / 8)
