use Rattle.std.proofs.Common.{◌≡◌, ◌+◌, ◌-◌, ◌/◌, ◌<◌, ◌≤◌, true}
use Rattle.subpool_store.specs.Edits.{IsAssigned, IsMarked}
use Rattle.subpool_store.specs.Region.{IsOpened}
use Rattle.subpool_store.specs.Memory.{IsFilled, Stays}
use Rattle.subpool_store.proofs.region_store.take_run.Given as goal

abbrev pub invariant-pages : goal.invariant-pages
invariant-pages l = record {
  from : l.run.start ≤ l.at;
  to : l.at ≤ l.run.end;
  page : l.at < l.run.end → l.at / 512 ≡ l.page;
  last : l.at ≡ l.run.end → l.page ≡ (l.run.end - 1) / 512 + 1;
  assigned : IsAssigned l.fn.pages (l.run.start / 512) l.page l.subpool l.pages;
  opened : IsOpened l.pages l.memory.bytes;
  marked : IsMarked l.fn.memory.held l.run.start l.at true l.memory.held;
  stays : Stays l.fn.memory.held l.fn.memory.bytes l.memory.bytes;
  filled : IsFilled l.run.start l.at l.fill l.memory.bytes;
}

abbrev pub decreases-pages : goal.decreases-pages
decreases-pages l = l.run.end - l.at
