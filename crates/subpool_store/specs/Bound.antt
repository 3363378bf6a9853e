-- How high an obtain may count. It counts 1 for each page entry and 1 for each free run of the subpool's pages that its
-- search comes to. What is proved is the number; that each is counted as it is looked at is read in counted.rt.
use Rattle.std.specs.Prelude.{◌≡◌, ℕ, ◌+◌, ◌*◌, ◌/◌, ◌≤◌, Option, None}
use Rattle.std.specs.FinMap.{get}
use Rattle.mvs_model.specs.Finite.{count_below}
use Rattle.mvs_model.specs.FreeRuns.{begins_free_run, free_runs, holds_in_page}
use Rattle.mvs_model.specs.Numbers.{first_doubleword_above, page_doublewords}
use Rattle.mvs_model.specs.Place.{PlaceValue}
use Rattle.mvs_model.specs.Storage.{Regions, Storage, end_of, holder}
use Rattle.mvs_model.specs.declared.want.Side.{Side}
use Rattle.mvs_model.specs.declared.want.Side.TheVariants.{Below, Either}
use Rattle.subpool_store.specs.Region.{RegionState}

-- P: the pages of the regions that the side allows
abbrev pub page_entries : Regions → Side → ℕ
page_entries r Below = r.below
page_entries r Either = r.below + r.above

-- Q: the pages there in which s holds something
abbrev pub own_pages : Storage → ℕ → Side → ℕ
own_pages st s Below = count_below (first_doubleword_above / page_doublewords) (holds_in_page (holder st) s)
own_pages st s Either = count_below (end_of st.regions / page_doublewords) (holds_in_page (holder st) s)

-- With F for the free runs of these pages, an obtain counts 1 at least and P + F at most, so P + 256 Q at most, since a page has at most 256 free runs; and P + F
-- where there is no place.
pub record IsBound (st : Storage) (s : ℕ) (side : Side) (place : Option PlaceValue) (steps : ℕ) : Type 0 where
  pub some : 1 ≤ steps
  pub at_most : steps ≤ page_entries st.regions side + free_runs st.regions (holder st) s side
  pub few : steps ≤ page_entries st.regions side + 256 * own_pages st s side
  pub all : place ≡ None → steps ≡ page_entries st.regions side + free_runs st.regions (holder st) s side

-- P + F of one region
abbrev pub most_steps : RegionState → ℕ → ℕ
most_steps h s = h.pages + count_below (page_doublewords * h.pages) (λ i. begins_free_run (get h.held) s (h.first + i))
