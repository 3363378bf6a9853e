use Rattle.std.proofs.Common.{◌≡◌, ◌<◌, ◌≤◌, ◌-◌, ◌*◌, ℕ, false}
use Rattle.mvs_model.specs.Storage.{is_one_of}
use Rattle.mvs_model.proofs.subpool_set.SubpoolSet.first_from.Given as goal

abbrev pub invariant-words : goal.invariant-words
invariant-words l = record {
  after : l.from ≤ l.at;
  skipped : (s : ℕ) → l.from ≤ s → s < l.at → is_one_of l.self s ≡ false;
}

abbrev pub decreases-words : goal.decreases-words
decreases-words l = 64 * 65 - l.at
