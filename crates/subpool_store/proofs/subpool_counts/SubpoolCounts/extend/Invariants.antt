use Rattle.std.proofs.Common.{◌≡◌, ◌+◌, ◌-◌, ◌≤◌, ℕ, length, vec_capacity}
use Rattle.subpool_store.specs.SubpoolCounts.{count_of}
use Rattle.subpool_store.proofs.subpool_counts.SubpoolCounts.extend.Given as goal

abbrev pub invariant-entries : goal.invariant-entries
invariant-entries l = record {
  room : 4098 ≤ vec_capacity l.self-inside.entries;
  counts : (t : ℕ) → count_of l.self-inside.entries.items t ≡ count_of l.fn.self t;
}

abbrev pub decreases-entries : goal.decreases-entries
decreases-entries l = l.s + 1 - length l.self-inside.entries.items
