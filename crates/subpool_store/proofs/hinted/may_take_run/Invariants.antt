use Rattle.std.proofs.Common.{◌≡◌, ◌-◌, ◌<◌, ◌≤◌, ℕ, true}
use Rattle.subpool_store.specs.Search.{may_take}
use Rattle.subpool_store.proofs.hinted.may_take_run.Given as goal

abbrev pub invariant-pages : goal.invariant-pages
invariant-pages l = record {
  from : l.run.start ≤ l.at;
  to : l.at ≤ l.run.end;
  taken : (i : ℕ) → l.run.start ≤ i → i < l.at → may_take l.memory.held l.pages l.subpool i ≡ true;
}

abbrev pub decreases-pages : goal.decreases-pages
decreases-pages l = l.run.end - l.at
