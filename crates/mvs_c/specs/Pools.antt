-- The cell pools of the step that runs.
use Rattle.std.specs.Prelude.{◌≡◌, ℕ, ◌/◌, List, Option, None, Some, MatchOption}
use Rattle.std.specs.FinMap.{get}
use Rattle.mvs_model.specs.declared.name.Name.{Name}
use Rattle.mvs_model.specs.declared.report.LastPart.{LastPart}
use Rattle.mvs_model.specs.LastPart.{IsNewest}
use Rattle.mvs_model.specs.Numbers.{page_bytes}
use Rattle.mvs_model.specs.Pools.{Pool}
use Rattle.mvs_model.specs.Reports.{page_subpool}
use Rattle.mvs_model.specs.State.{State}
use Rattle.request_forms.specs.Reports.{IsHolder}
use Rattle.mvs_c.specs.declared.pool.PoolFields.{PoolFields}
use Rattle.mvs_c.specs.Asks.{IsNamed, name_value}
use Rattle.mvs_c.specs.Held.{IsRegionPage}
use Rattle.mvs_c.specs.Opens.{OpenValue}
use Rattle.mvs_c.specs.Reasons.{blank_name}

-- the number of bytes of a pool for C
abbrev pub pool_bytes : ℕ
pool_bytes = 36

-- The number and the owner are those of the subpool that a page is assigned to; a page that is in no region is assigned to none.
pub record IsPageLabel (st : State) (page : ℕ) (label : Option (ℕ × Name)) : Type 0 where
  pub inside : IsRegionPage st.regions page → IsHolder st.owners (page_subpool st page) label
  pub outside : (IsRegionPage st.regions page → ⊥) → label ≡ None

-- a pool for C, by its part that was added last, and the subpool of the first page of that
abbrev pub pool_value : LastPart → Option (ℕ × Name) → PoolFields
pool_value part None = record { size = pool_bytes; cell_size = part.cell_size; parts = part.parts; address = part.place.addr; length = part.place.len; cells = part.cells; number = 0; owner = blank_name }
pool_value part (Some label) = record { size = pool_bytes; cell_size = part.cell_size; parts = part.parts; address = part.place.addr; length = part.place.len; cells = part.cells; number = label.0; owner = label.1 }

-- These are the fields of the pool of a name.
pub record IsPool (st : State) (name : Name) (found : PoolFields) : Type 0 where
  pub pool : Pool
  pub named : get st.pools name ≡ Some pool
  pub part : LastPart
  pub newest : IsNewest pool part
  pub label : Option (ℕ × Name)
  pub labelled : IsPageLabel st (part.place.addr / page_bytes) label
  pub value : found ≡ pool_value part label

-- What is found of the pool of a name: its fields, or that there is none.
pub record FindsPool (o : OpenValue) (name : List ℕ) (found : Option PoolFields) : Type 0 where
  pub named : IsNamed name → MatchOption o.session.walk.step (found ≡ None)
      (λ job. MatchOption found (get job.state.pools (name_value name) ≡ None) (IsPool job.state (name_value name)))
  pub unnamed : (IsNamed name → ⊥) → found ≡ None
