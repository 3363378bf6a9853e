use Rattle.std.proofs.Common.{◌≡◌, ◌-◌, ◌<◌, ◌≤◌, ℕ, true, get_or, false}
use Rattle.subpool_store.proofs.free_runs.are_held.Given as goal

abbrev pub invariant-pages : goal.invariant-pages
invariant-pages l = record {
  from : l.run.start ≤ l.at;
  to : l.at ≤ l.run.end;
  held : (i : ℕ) → l.run.start ≤ i → i < l.at → get_or l.memory.held i false ≡ true;
}

abbrev pub decreases-pages : goal.decreases-pages
decreases-pages l = l.run.end - l.at
