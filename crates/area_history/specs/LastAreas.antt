-- The last two areas that have each doubleword, by their numbers from 1 on in the order in which they were granted.
use Rattle.std.specs.Prelude.{◌≡◌, ◌≤◌, ◌<◌, ℕ, ◌+◌, ◌-◌, ◌==◌, Bool, true, false, List, [], ◌∷◌, length, take, drop, Option, None, Some, slice_get, slice_index_or, if◌then◌else◌}
use Rattle.mvs_model.specs.Place.{PlaceValue}
use Rattle.area_history.specs.declared.findings.LastTwo.{LastTwo}
use Rattle.area_history.specs.declared.grant.AreaGrant.{AreaGrant}
use Rattle.area_history.specs.declared.last_areas.LastAreas.{LastAreas}
use Rattle.area_history.specs.declared.last_areas.LastNumbers.{LastNumbers}
use Rattle.area_history.specs.declared.largest.Leaks.{Leaks}
use Rattle.area_history.specs.Leaking.{has_doubleword, leaks, ranked, total, value_at}
use Rattle.area_history.specs.Totals.{by_subpool, by_task}

-- the area with a number, if it is not 0
abbrev pub area_of : List AreaGrant → ℕ → Option AreaGrant
area_of grants n = if n == 0 then None else slice_get grants (n - 1)

-- the areas with some numbers
abbrev pub areas_of : List AreaGrant → LastNumbers → LastTwo
areas_of grants two = record { previous = area_of grants two.previous; latest = area_of grants two.latest }

-- no area has the doubleword
abbrev pub no_numbers : LastNumbers
no_numbers = record { latest = 0; previous = 0 }

-- the numbers of the last two areas that have a doubleword, after one more with a number and a place
abbrev pub later_numbers : ℕ → ℕ → LastNumbers → PlaceValue → LastNumbers
later_numbers d n two p = if has_doubleword p d then record { latest = n; previous = two.latest } else two

-- after more areas, the first with this number
abbrev pub numbers_after : ℕ → ℕ → LastNumbers → List AreaGrant → LastNumbers
numbers_after d n two [] = two
numbers_after d n two (g ∷ grants) = numbers_after d (n + 1) (later_numbers d n two g.place) grants

-- the numbers that are kept for a doubleword
abbrev pub numbers_at : LastAreas → ℕ → LastNumbers
numbers_at last d = value_at last.numbers no_numbers d

-- whether an area, by its number from 0 on, is the last one that has a doubleword
abbrev pub is_last : LastAreas → ℕ → ℕ → Bool
is_last last n d = (numbers_at last d).latest == n + 1

-- whether it is noted that it is the last one that has each of its doublewords
abbrev pub is_whole : LastAreas → ℕ → Bool
is_whole last n = slice_index_or last.whole.items n false

-- It is the last one that has each doubleword of a place.
abbrev pub IsWhole : LastAreas → ℕ → PlaceValue → Type 0
IsWhole last n p = (d : ℕ) → has_doubleword p d ≡ true → is_last last n d ≡ true

-- It is not the last one that has any of them.
abbrev pub IsHidden : LastAreas → ℕ → PlaceValue → Type 0
IsHidden last n p = (d : ℕ) → has_doubleword p d ≡ true → is_last last n d ≡ false

-- Of the areas from one number on, up to another, each is hidden.
abbrev pub AreHidden : LastAreas → List AreaGrant → ℕ → ℕ → Type 0
AreHidden last grants from to = (n : ℕ) (g : AreaGrant) → slice_get grants n ≡ Some g → from ≤ n → n < to → IsHidden last n g.place

-- Each of them is, but for those with these numbers.
abbrev pub AreVisible : LastAreas → List AreaGrant → ℕ → List ℕ → ℕ → Type 0
AreVisible last grants from [] to = AreHidden last grants from to
AreVisible last grants from (n ∷ numbers) to = (from ≤ n) × (n < to) × AreHidden last grants from n × AreVisible last grants (n + 1) numbers to

-- The first ones of these areas were added.
pub record IsIndexOf (last : LastAreas) (grants : List AreaGrant) : Type 0 where
  pub count : last.count ≤ length grants
  pub flags : length last.whole.items ≡ last.count
  pub whole : (n : ℕ) (g : AreaGrant) → slice_get grants n ≡ Some g → is_whole last n ≡ true → IsWhole last n g.place
  pub visible : AreVisible last grants 0 last.visible.items last.count
  pub numbers : (d : ℕ) → numbers_at last d ≡ numbers_after d 1 no_numbers (take last.count grants)

-- What is left of the areas from some number on was found; before it, all are hidden but for those with these numbers.
pub record IsTallied (last : LastAreas) (grants : List AreaGrant) (selected : AreaGrant → Bool) (plain : ℕ → Bool) (numbers : List ℕ) (found : Leaks) : Type 0 where
  pub from : ℕ
  pub within : from ≤ length grants
  pub visible : AreVisible last grants 0 numbers from
  pub largest : found.largest ≡ take 10 (ranked (leaks selected plain (drop from grants)))
  pub count : found.count ≡ length (leaks selected plain (drop from grants))
  pub bytes : found.bytes ≡ total (leaks selected plain (drop from grants))
  pub subpools : found.subpools ≡ take 10 (by_subpool (leaks selected plain (drop from grants)))
  pub tasks : found.tasks ≡ take 10 (by_task (leaks selected plain (drop from grants)))
