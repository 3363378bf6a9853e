-- How storage, the tasks with what they own, and the cell pools are seen as one state of the machine.
use Rattle.std.specs.Prelude.{ℕ, ◌+◌, ◌*◌, ◌≤◌, Bool, Option}
use Rattle.std.specs.List.{list_any}
use Rattle.std.specs.Option.{option_map}
use Rattle.std.specs.FinMap.{FinMap, get, keys, empty, retain_keys}
use Rattle.mvs_model.specs.Name.{name_cmp}
use Rattle.mvs_model.specs.Finite.{has}
use Rattle.mvs_model.specs.Table.{table}
use Rattle.mvs_model.specs.Storage.{Storage, Regions, holder}
use Rattle.mvs_model.specs.Owners.{Owners}
use Rattle.mvs_model.specs.Pools.{Pool, in_parts}
use Rattle.mvs_model.specs.State.{State, Holding, granted}
use Rattle.mvs_model.specs.Numbers.{page_doublewords, first_doubleword_above, most_pages_below, most_pages_above}

-- The page counts are at most those of a card. (this project's choice)
pub record IsBounded (r : Regions) : Type 0 where
  pub below : r.below ≤ most_pages_below
  pub above : r.above ≤ most_pages_above

-- whether a pool has a part with the doubleword
abbrev pub in_pools : FinMap name_cmp Pool → ℕ → Bool
in_pools pools d = list_any (λ name. has (λ pool. in_parts pool d) (get pools name)) (keys pools)

-- what holds a doubleword: its subpool, as a part of a pool where a pool has a part there
abbrev pub holding : Storage → FinMap name_cmp Pool → ℕ → Option Holding
holding st pools d = option_map (λ s. record { subpool = s; pooled = in_pools pools d }) (holder st d)

-- a doubleword after both regions
abbrev pub past_regions : Regions → ℕ
past_regions r = first_doubleword_above + page_doublewords * (r.below + r.above)

-- the state without the bytes
abbrev pub without_bytes : Storage → Owners → FinMap name_cmp Pool → State
without_bytes st o pools = record { regions = st.regions; held = table (past_regions st.regions) (holding st pools); bytes = empty; owners = o; pools = pools }

-- The state: its bytes are those of storage that may be read and written.
abbrev pub state_of : Storage → Owners → FinMap name_cmp Pool → State
state_of st o pools = record (without_bytes st o pools) { bytes = retain_keys st.bytes (granted (without_bytes st o pools)) }

-- the state where there are no pools
abbrev pub seen : Storage → Owners → State
seen st o = state_of st o empty
