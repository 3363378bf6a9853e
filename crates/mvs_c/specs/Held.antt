-- The runs of held doublewords.
use Rattle.std.specs.Prelude.{◌≡◌, ◌≢◌, ◌⊎◌, ℕ, Bool, ◌+◌, ◌-◌, ◌*◌, ◌/◌, ◌^◌, ◌<◌, ◌≤◌, false, true, Option, None, Some, IsSome, MatchOption}
use Rattle.std.specs.FinMap.{get}
use Rattle.mvs_model.specs.declared.reason.Holder.{Holder}
use Rattle.mvs_model.specs.declared.reason.Holder.TheVariants.{Nobody, Outside, Subpool, Unowned, Part}
use Rattle.mvs_model.specs.Numbers.{first_page_below, first_page_above, page_doublewords}
use Rattle.mvs_model.specs.Reasons.{Holds}
use Rattle.mvs_model.specs.Reports.{page_subpool}
use Rattle.mvs_model.specs.State.{State}
use Rattle.mvs_model.specs.Storage.{Regions}
use Rattle.mvs_c.specs.declared.held.HeldFields.{HeldFields}
use Rattle.mvs_c.specs.declared.held.HeldRun.{HeldRun}
use Rattle.mvs_c.specs.Opens.{OpenValue}
use Rattle.mvs_c.specs.Reasons.{blank_name}

-- The page is in a region.
abbrev pub IsRegionPage : Regions → ℕ → Type 0
IsRegionPage r page = ((first_page_below ≤ page) × (page < first_page_below + r.below)) ⊎ ((first_page_above ≤ page) × (page < first_page_above + r.above))

-- The doubleword is on a page of the regions that is assigned to a subpool with an owner: REPORT MAP shows the owner.
pub record IsMapped (st : State) (d : ℕ) : Type 0 where
  pub page : IsRegionPage st.regions (d / page_doublewords)
  pub subpool : ℕ
  pub assigned : page_subpool st (d / page_doublewords) ≡ Some subpool
  pub owned : IsSome (get st.owners.owner subpool)

-- whether nothing holds a doubleword: it is free, or in no region
abbrev pub is_nothing : Holder → Bool
is_nothing Nobody = true
is_nothing Outside = true
is_nothing (Subpool number owner) = false
is_nothing Unowned = false
is_nothing (Part name) = false

-- Something else holds the doubleword, or nothing.
abbrev pub IsHeldOtherwise : State → ℕ → Holder → Type 0
IsHeldOtherwise st d h = (other : Holder) × Holds st d other × (other ≢ h)

-- A run begins at the doubleword: h holds it, and not the one before.
pub record BeginsRun (st : State) (d : ℕ) (h : Holder) : Type 0 where
  pub held : Holds st d h
  pub some : is_nothing h ≡ false
  pub before : IsHeldOtherwise st (d - 1) h

-- No run begins at the doubleword: nothing holds it, or what holds the one before.
abbrev pub BeginsNoRun : State → ℕ → Type 0
BeginsNoRun st d = (h : Holder) × Holds st d h × ((is_nothing h ≡ true) ⊎ Holds st (d - 1) h)

-- The doublewords from the first one up to the end are held by h, and the one at the end is not.
pub record EndsRun (st : State) (first end : ℕ) (h : Holder) : Type 0 where
  pub some : first < end
  pub alike : (d : ℕ) → first ≤ d → d < end → Holds st d h
  pub ends : end < 2 ^ 28 → IsHeldOtherwise st end h

-- No run begins at the mapped doublewords from one on, before another.
abbrev pub NoRunBetween : State → ℕ → ℕ → Type 0
NoRunBetween st from end = (d : ℕ) → IsMapped st d → from ≤ d → d < end → BeginsNoRun st d

-- The run is the first one that begins at or after an address.
pub record IsHeldRun (st : State) (from : ℕ) (run : HeldRun) : Type 0 where
  pub placed : from ≤ 8 * run.first
  pub begins : BeginsRun st run.first run.holder
  pub ends : EndsRun st run.first (run.first + run.count) run.holder
  pub low : run.first + run.count ≤ 2 ^ 28
  pub none_before : (d : ℕ) → IsMapped st d → from ≤ 8 * d → d < run.first → BeginsNoRun st d

-- No run begins at or after an address.
abbrev pub IsHeldEnd : State → ℕ → Type 0
IsHeldEnd st from = (d : ℕ) → IsMapped st d → from ≤ 8 * d → BeginsNoRun st d

-- What is found of the first run at or after an address.
pub record FindsHeld (o : OpenValue) (from : ℕ) (found : Option HeldRun) : Type 0 where
  pub low : from < 2 ^ 31 → MatchOption o.session.walk.step (found ≡ None) (λ job. MatchOption found (IsHeldEnd job.state from) (IsHeldRun job.state from))
  pub high : 2 ^ 31 ≤ from → found ≡ None

-- the number of bytes of a run for C
abbrev pub held_bytes : ℕ
held_bytes = 36

-- a run for C: what holds it
abbrev pub holder_value : ℕ → ℕ → Holder → HeldFields
holder_value addr len (Subpool number owner) = record { size = held_bytes; address = addr; length = len; pooled = false; number = number; owner = owner; pool = blank_name }
holder_value addr len (Part name) = record { size = held_bytes; address = addr; length = len; pooled = true; number = 0; owner = blank_name; pool = name }
holder_value addr len Unowned = record { size = held_bytes; address = addr; length = len; pooled = false; number = 0; owner = blank_name; pool = blank_name }
holder_value addr len Nobody = record { size = held_bytes; address = addr; length = len; pooled = false; number = 0; owner = blank_name; pool = blank_name }
holder_value addr len Outside = record { size = held_bytes; address = addr; length = len; pooled = false; number = 0; owner = blank_name; pool = blank_name }

abbrev pub held_value : HeldRun → HeldFields
held_value run = holder_value (8 * run.first) (8 * run.count) run.holder
