use Rattle.std.proofs.Common.{◌≡◌, ◌-◌, ◌+◌, ◌<◌, ◌≤◌, ℕ, true}
use Rattle.mvs_model.specs.Gifts.{gives}
use Rattle.area_history.specs.ReleaseIndex.{first_code, has_code}
use Rattle.area_history.proofs.owner_index.OwnerIndex.insert_given.Given as goal

abbrev pub invariant-given : goal.invariant-given
invariant-given l = record {
  within : l.from ≤ 128;
  added : (n : ℕ) → n < l.from → gives l.gifts n ≡ true → has_code l.self (first_code l.task n + l.change) ≡ true;
  kept : (code : ℕ) → has_code l.initial.self code ≡ true → has_code l.self code ≡ true;
}

abbrev pub decreases-given : goal.decreases-given
decreases-given l = 128 - l.from
