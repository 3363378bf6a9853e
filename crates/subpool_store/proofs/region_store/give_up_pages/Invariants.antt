use Rattle.std.proofs.Common.{◌≡◌}
use Rattle.subpool_store.specs.Edits.{IsGivenUp}
use Rattle.subpool_store.specs.Region.{IsOpened}
use Rattle.subpool_store.specs.Memory.{Stays}
use Rattle.subpool_store.proofs.region_store.give_up_pages.Given as goal

abbrev pub invariant-loop-page : goal.invariant-loop-page
invariant-loop-page l = record {
  given : IsGivenUp l.fn.memory.held l.fn.pages l.from l.page l.pages;
  opened : IsOpened l.pages l.memory.bytes;
  held : l.memory.held ≡ l.fn.memory.held;
  stays : Stays l.fn.memory.held l.fn.memory.bytes l.memory.bytes;
}
