use Rattle.std.proofs.Common.{◌≤◌, ◌-◌}
use Rattle.subpool_store.specs.Search.{may_take, NoneFits}
use Rattle.subpool_store.specs.PageWalk.{IsWalk}
use Rattle.subpool_store.proofs.walk.PageWalk.next_run.Given as goal

abbrev pub invariant-parts : goal.invariant-parts
invariant-parts l = record {
  walk : IsWalk l.memory l.pages l.subpool l.self;
  after : l.fn.self.start ≤ l.self.start;
  none : NoneFits (may_take l.memory.held l.pages l.subpool) l.least l.fn.self.start l.self.start;
}

abbrev pub decreases-parts : goal.decreases-parts
decreases-parts l = l.total - l.self.end
