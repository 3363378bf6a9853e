use Rattle.std.proofs.Common.{◌≡◌, ◌<◌, ◌≤◌, ℕ, Some}
use Rattle.page_map.specs.Owners.{owner_of}
use Rattle.subpool_store.proofs.region_store.are_of.Given as goal

abbrev pub invariant-loop-page : goal.invariant-loop-page
invariant-loop-page l = (p : ℕ) → l.from ≤ p → p < l.page → owner_of l.pages p ≡ Some l.subpool
