-- The state of the machine.
use Rattle.std.specs.Prelude.{ℕ, ◌/◌, Bool, true, false, ◌||◌, not, Option, Some, None, refl}
use Rattle.std.specs.List.{list_any}
use Rattle.std.specs.Ordering.{nat_cmp}
use Rattle.std.specs.FinMap.{FinMap, get, keys, code}
use Rattle.std.specs.Coded.{Coded, code_by, coded×, coded_ℕ, coded_bool}
use Rattle.mvs_model.specs.Name.{name_cmp, name_code}
use Rattle.mvs_model.specs.Finite.{has}
use Rattle.mvs_model.specs.Storage.{Regions}
use Rattle.mvs_model.specs.Owners.{Owners, owners_code}
use Rattle.mvs_model.specs.Pools.{Pool, pool_code, in_taken}

-- What holds a doubleword: a subpool, and whether as a part of a cell pool.
pub record Holding : Type 0 where
  pub subpool : ℕ
  pub pooled : Bool

-- held by a subpool, outside the pools
abbrev pub plain : ℕ → Holding
plain s = record { subpool = s; pooled = false }

-- held by a subpool, as a part of a pool
abbrev pub pooled : ℕ → Holding
pooled s = record { subpool = s; pooled = true }

-- the code of what holds a doubleword, for a model's value
abbrev holding_code : Coded Holding
holding_code = code_by (ℕ × Bool) (coded× coded_ℕ coded_bool) (λ h. (h.subpool, h.pooled)) (λ p. record { subpool = p.0; pooled = p.1 }) (λ _. refl)

-- The regions of the step with its fill byte, what is held, the bytes that may be read and written, the tasks with what
-- they own, and the cell pools.
pub record State : Type 0 where
  pub regions : Regions
  pub held : FinMap nat_cmp Holding
  pub bytes : FinMap nat_cmp ℕ
  pub owners : Owners
  pub pools : FinMap name_cmp Pool

-- the code of a state, for a model's value
abbrev pub state_code : Coded State
state_code =
    code_by ((ℕ × (ℕ × ℕ)) × (FinMap nat_cmp Holding × (FinMap nat_cmp ℕ × (Owners × FinMap name_cmp Pool))))
    (coded× (coded× coded_ℕ (coded× coded_ℕ coded_ℕ)) (coded× (code coded_ℕ holding_code) (coded× (code coded_ℕ coded_ℕ) (coded× owners_code (code name_code pool_code)))))
    (λ s. ((s.regions.below, (s.regions.above, s.regions.fill)), (s.held, (s.bytes, (s.owners, s.pools)))))
    (λ p. record { regions = record { below = p.0.0; above = p.0.1.0; fill = p.0.1.1 }; held = p.1.0; bytes = p.1.1.0; owners = p.1.1.1.0; pools = p.1.1.1.1 })
    (λ _. refl)

-- the subpool of what holds a doubleword
abbrev pub subpool_in : Option Holding → Option ℕ
subpool_in None = None
subpool_in (Some h) = Some h.subpool

-- which subpool holds a doubleword of the state
abbrev pub holder : State → ℕ → Option ℕ
holder st d = subpool_in (get st.held d)

-- whether it is held outside the pools
abbrev pub is_plain : Option Holding → Bool
is_plain held = has (λ h. not h.pooled) held

-- whether a taken cell has the address
abbrev pub in_cell : State → ℕ → Bool
in_cell st a = list_any (λ name. has (λ pool. in_taken pool a) (get st.pools name)) (keys st.pools)

-- whether the byte can be accessed: its doubleword is held outside pools, or it is in a taken cell. (this project's choice)
abbrev pub granted : State → ℕ → Bool
granted st a = is_plain (get st.held (a / 8)) || in_cell st a
