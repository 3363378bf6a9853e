-- What the reports answer. (they are this project's own)
use Rattle.std.specs.Prelude.{◌≡◌, ◌≢◌, ◌⊎◌, ℕ, ◌+◌, ◌-◌, ◌*◌, ◌<◌, ◌≤◌, true, false, Option, Some, None, MatchOption}
use Rattle.std.specs.Option.{option_and_then}
use Rattle.std.specs.FinMap.{get}
use Rattle.mvs_model.specs.declared.name.Name.{Name}
use Rattle.mvs_model.specs.declared.report.SubpoolLine.{SubpoolLine}
use Rattle.mvs_model.specs.declared.report.MapRun.{MapRun}
use Rattle.mvs_model.specs.Storage.{Storage, holder}
use Rattle.mvs_model.specs.Owners.{Owners, entry, owns}
use Rattle.mvs_model.specs.State.{State}
use Rattle.mvs_model.specs.Reports.{bytes_held, first_from, page_subpool, number_of}
use Rattle.mvs_model.specs.Numbers.{page_bytes, page_doublewords, subpool_numbers, first_page_below, first_page_above}

-- The task has no subpool under the numbers from one up to another.
abbrev pub HasNone : Owners → Name → ℕ → ℕ → Type 0
HasNone o t from end = (n : ℕ) → from ≤ n → n < end → entry o t n ≡ None

-- The line is that of the first number at or after one that the task has.
pub record IsSubpoolLine (st : State) (t : Name) (from : ℕ) (line : SubpoolLine) : Type 0 where
  pub after : from ≤ line.number
  pub low : line.number < subpool_numbers
  pub first : HasNone st.owners t from line.number
  pub subpool : ℕ
  pub has : entry st.owners t line.number ≡ Some subpool
  pub owned : line.owned ≡ owns st.owners t subpool
  pub plain : line.plain ≡ bytes_held st subpool false
  pub pool : line.pool ≡ bytes_held st subpool true

-- the subpool that holds doublewords of a page
abbrev pub page_holder : Storage → ℕ → Option ℕ
page_holder st page = first_from (page_doublewords * page) page_doublewords (holder st)

-- The page is the first one of its region, or is assigned otherwise than the one before it.
abbrev pub Begins : (ℕ → Option ℕ) → ℕ → ℕ → Type 0
Begins owner first page = first < page → owner (page - 1) ≢ owner page

-- The page is assigned like the one before it in its region.
abbrev pub ContinuesRun : (ℕ → Option ℕ) → ℕ → ℕ → Type 0
ContinuesRun owner first page = (first < page) × (owner (page - 1) ≡ owner page)

-- No run begins in a region's pages from an address on, before a page.
abbrev pub NoneBegins : (ℕ → Option ℕ) → ℕ → ℕ → ℕ → Type 0
NoneBegins owner first from end = (p : ℕ) → first ≤ p → from ≤ page_bytes * p → p < end → ContinuesRun owner first p

-- The pages up to the stop are assigned like the first of them, and the next one of the region, if there is one, is not.
pub record EndsAt (owner : ℕ → Option ℕ) (page end stop : ℕ) : Type 0 where
  pub low : page < stop
  pub high : stop ≤ end
  pub alike : (p : ℕ) → page ≤ p → p < stop → owner p ≡ owner page
  pub ends : stop < end → owner stop ≢ owner page

-- n pages of a region, from its first page to its end, are assigned alike, and neither the page before them nor the one after them
-- is assigned so.
pub record IsPages (owner : ℕ → Option ℕ) (first end page count : ℕ) : Type 0 where
  pub low : first ≤ page
  pub begins : Begins owner first page
  pub ends : EndsAt owner page end (page + count)

-- The number and the owner are those of the subpool that pages are assigned to; there is none where they are not assigned.
abbrev pub IsHolder : Owners → Option ℕ → Option (ℕ × Name) → Type 0
IsHolder o owner label = MatchOption label
    (option_and_then (λ s. get o.owner s) owner ≡ None)
    (λ l. (s : ℕ) × (owner ≡ Some s) × (get o.owner s ≡ Some l.1) × (number_of o l.1 s ≡ Some l.0))

-- Where the first run of pages at or after an address is: in the region below, or, if none begins there, in the region above.
abbrev pub IsPlaced : State → ℕ → ℕ → ℕ → Type 0
IsPlaced st from page count =
    (IsPages (page_subpool st) first_page_below (first_page_below + st.regions.below) page count × NoneBegins (page_subpool st) first_page_below from page)
    ⊎ (NoneBegins (page_subpool st) first_page_below from (first_page_below + st.regions.below) × IsPages (page_subpool st) first_page_above (first_page_above + st.regions.above) page count × NoneBegins (page_subpool st) first_page_above from page)

-- The run is the first one of the map that begins at or after an address.
pub record IsMapRun (st : State) (from : ℕ) (run : MapRun) : Type 0 where
  pub page : ℕ
  pub count : ℕ
  pub addr : run.addr ≡ page_bytes * page
  pub len : run.len ≡ page_bytes * count
  pub after : from ≤ run.addr
  pub placed : IsPlaced st from page count
  pub end : run.addr + run.len ≤ 0x3000000
  pub holder : IsHolder st.owners (page_subpool st page) run.holder

-- No run of the map begins at or after an address.
abbrev pub IsMapEnd : State → ℕ → Type 0
IsMapEnd st from = NoneBegins (page_subpool st) first_page_below from (first_page_below + st.regions.below) × NoneBegins (page_subpool st) first_page_above from (first_page_above + st.regions.above)
