use Rattle.std.proofs.Common.{◌≡◌, ◌<◌, ◌≤◌, ◌+◌, ◌-◌, ℕ, length}
use Rattle.subpool_store.specs.PageWalk.{IsFull, entries_to, entry_of}
use Rattle.subpool_store.proofs.counted.Counted.pass_full.Given as goal

abbrev pub invariant-pages : goal.invariant-pages
invariant-pages l = record {
  after : l.from ≤ l.page;
  within : l.page ≤ length l.pages;
  passed : (p : ℕ) → l.from ≤ p → p < l.page → IsFull l.memory.held l.pages l.subpool p;
  entry : l.entry ≡ entry_of l.pages l.subpool l.page;
  counted : l.self.steps + l.from ≡ l.fn.self.steps + entries_to l.pages l.page;
}

abbrev pub decreases-pages : goal.decreases-pages
decreases-pages l = length l.pages - l.page
