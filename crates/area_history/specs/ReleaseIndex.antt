-- An index of the changes of a step: which changes released a doubleword last, and which ones are no releases of places.
use Rattle.std.specs.Prelude.{◌≡◌, ◌⊎◌, ◌≤◌, ◌<◌, ℕ, ◌+◌, ◌-◌, ◌*◌, ◌==◌, ◌&&◌, Bool, true, false, List, length, drop, Option, None, Some, slice_get, if◌then◌else◌}
use Rattle.std.specs.BTreeSet.{contains}
use Rattle.std.specs.Int.{from_be_bytes, w64}
use Rattle.std.specs.Ordering.{nat_cmp}
use Rattle.mvs_model.specs.declared.name.Name.{Name}
use Rattle.mvs_model.specs.Gifts.{gives}
use Rattle.mvs_model.specs.Name.{same_name}
use Rattle.mvs_model.specs.Storage.{covers}
use Rattle.area_history.specs.declared.events.StorageChange.{StorageChange}
use Rattle.area_history.specs.declared.events.StorageChange.TheVariants as change
use Rattle.area_history.specs.declared.events.StorageEvent.{StorageEvent}
use Rattle.area_history.specs.declared.grant.AreaGrant.{AreaGrant}
use Rattle.area_history.specs.declared.owner_index.OwnerIndex.{OwnerIndex}
use Rattle.area_history.specs.declared.release_index.LastReleases.{LastReleases}
use Rattle.area_history.specs.declared.release_index.ReleaseIndex.{ReleaseIndex}
use Rattle.area_history.specs.Histories.{fate}
use Rattle.area_history.specs.Leaking.{value_at}

-- whether a change releases a place that has a byte of a doubleword
abbrev pub releases : ℕ → StorageChange → Bool
releases d (change.Released p) = covers p d
releases d (change.Emptied emptied other) = false
releases d (change.Ended task) = false
releases d (change.Attached name gifts areas) = false

-- whether a change by a task frees the whole subpool that an owner has under a number, or gives it to another task
abbrev pub concerns_by : Name → ℕ → Name → StorageChange → Bool
concerns_by owner n t (change.Released p) = false
concerns_by owner n t (change.Emptied emptied other) = (emptied == n) && same_name other owner
concerns_by owner n t (change.Ended task) = same_name task owner
concerns_by owner n t (change.Attached name gifts areas) = same_name t owner && gives gifts n

abbrev pub concerns : Name → ℕ → StorageEvent → Bool
concerns owner n e = concerns_by owner n e.task e.change

-- None of the changes from one number on, up to another, does so.
abbrev pub NoneConcerns : Name → ℕ → List StorageEvent → ℕ → ℕ → Type 0
NoneConcerns owner n events from to = (i : ℕ) (e : StorageEvent) → slice_get events i ≡ Some e → from ≤ i → i < to → concerns owner n e ≡ false

-- None of the changes from one number on, up to another, releases the doubleword.
abbrev pub NoneReleases : ℕ → List StorageEvent → ℕ → ℕ → Type 0
NoneReleases d events from to = (i : ℕ) (e : StorageEvent) → slice_get events i ≡ Some e → from ≤ i → i < to → releases d e.change ≡ false

-- no change released the doubleword
abbrev pub no_releases : LastReleases
no_releases = record { latest = 0; previous = 0; earlier = 0 }

-- the last changes that released a doubleword, after one with this number that may have done so
abbrev pub later_releases : Bool → ℕ → LastReleases → LastReleases
later_releases b n last = if b then record { latest = n; previous = last.latest; earlier = last.previous } else last

-- the numbers that are kept for a doubleword
abbrev pub releases_at : ReleaseIndex → ℕ → LastReleases
releases_at index d = value_at index.releases no_releases d

-- They are the last three of the first changes that released the doubleword.
pub record AreLastReleases (d count : ℕ) (last : LastReleases) (events : List StorageEvent) : Type 0 where
  pub latest : last.latest ≤ count
  pub previous : last.previous ≤ count
  pub after_latest : NoneReleases d events last.latest count
  pub after_previous : NoneReleases d events last.previous (last.latest - 1)
  pub after_earlier : NoneReleases d events last.earlier (last.previous - 1)

-- the code of the change with number 0, for the subpool that an owner has under a number
abbrev pub first_code : Name → ℕ → ℕ
first_code owner n = from_be_bytes w64 owner * 1099511627776 + n * 4294967296

-- whether the index has a code
abbrev pub has_code : OwnerIndex → ℕ → Bool
has_code owners code = contains nat_cmp owners.codes code

-- It is the first code from one on.
abbrev pub IsFirstCode : OwnerIndex → ℕ → Option ℕ → Type 0
IsFirstCode owners least None = (code : ℕ) → least ≤ code → has_code owners code ≡ false
IsFirstCode owners least (Some first) = (least ≤ first) × ((code : ℕ) → least ≤ code → has_code owners code ≡ true → first ≤ code)

-- Each of the first changes has a code for each subpool that it concerns, or for its owner.
abbrev pub HaveCodes : OwnerIndex → ℕ → List StorageEvent → Type 0
HaveCodes owners count events =
    (i : ℕ) (e : StorageEvent) (owner : Name) (n : ℕ) → slice_get events i ≡ Some e → i < count → concerns owner n e ≡ true → (has_code owners (first_code owner n + i) ≡ true) ⊎ (has_code owners (first_code owner 255 + i) ≡ true)

-- The first ones of these changes were added.
pub record IsReleaseIndex (index : ReleaseIndex) (events : List StorageEvent) : Type 0 where
  pub count : index.count ≤ length events
  pub releases : (d : ℕ) → AreLastReleases d index.count (releases_at index d) events
  pub codes : HaveCodes index.owners index.count events

-- The lines of the changes ascend.
abbrev pub IsAscending : List StorageEvent → Type 0
IsAscending events = (i j : ℕ) (x y : StorageEvent) → slice_get events i ≡ Some x → slice_get events j ≡ Some y → i ≤ j → x.line ≤ y.line

-- The changes before one number are of a line, or of lines before it.
abbrev pub AreEarlier : ℕ → List StorageEvent → ℕ → Type 0
AreEarlier line events to = (i : ℕ) (e : StorageEvent) → slice_get events i ≡ Some e → i < to → e.line ≤ line

-- What frees the doubleword of the area is among the changes from some number on, if its subpool has this owner there; none before the
-- end releases the doubleword.
pub record IsAmong (d : ℕ) (g : AreaGrant) (owner : Name) (events : List StorageEvent) (from end : ℕ) : Type 0 where
  pub order : from ≤ end
  pub quiet : NoneReleases d events from end
  pub same : fate d g owner (drop from events) ≡ fate d g g.owner events
