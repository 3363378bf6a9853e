-- Which pages are assigned to a subpool, and which of them changed between two calls.
use Rattle.std.specs.Prelude.{◌≡◌, ◌≢◌, ℕ, ◌*◌, ◌<◌, ◌≤◌, Bool, false, List, slice_index_or, Option, Some, None, IsSome, MatchBool, MatchOption}
use Rattle.std.specs.Option.{option_and_then}
use Rattle.std.specs.FinMap.{get}
use Rattle.mvs_model.specs.Job.{JobValue}
use Rattle.mvs_model.specs.Numbers.{page_bytes}
use Rattle.mvs_model.specs.Reports.{page_subpool}
use Rattle.mvs_model.specs.State.{State}
use Rattle.mvs_c.specs.declared.pages.PageSpan.{PageSpan}
use Rattle.mvs_c.specs.declared.pages.PagesFields.{PagesFields}
use Rattle.mvs_c.specs.Access.{ReturnsOne}
use Rattle.mvs_c.specs.Held.{IsRegionPage}
use Rattle.mvs_c.specs.Opens.{OpenValue}

-- The pages of all regions are below this one.
abbrev pub end_page : ℕ
end_page = 12288

-- The page is in a region and is assigned to a subpool with an owner: REPORT MAP shows it as assigned.
pub record IsAssigned (st : State) (page : ℕ) : Type 0 where
  pub region : IsRegionPage st.regions page
  pub owned : IsSome (option_and_then (λ s. get st.owners.owner s) (page_subpool st page))

-- The same of the step that runs; before the first step no page is assigned.
abbrev pub IsAssignedIn : Option JobValue → ℕ → Type 0
IsAssignedIn None page = ⊥
IsAssignedIn (Some job) page = IsAssigned job.state page

-- the flag of a page
abbrev pub flag_of : List Bool → ℕ → Bool
flag_of flags page = slice_index_or flags page false

-- A flag says whether something is so.
abbrev pub IsFlagOf : Type 0 → Bool → Type 0
IsFlagOf P flag = MatchBool flag P (P → ⊥)

-- Each page has the flag of whether it is assigned.
abbrev pub AreFlags : Option JobValue → List Bool → Type 0
AreFlags step flags = (page : ℕ) → page < end_page → IsFlagOf (IsAssignedIn step page) (flag_of flags page)

-- The page has another flag than before.
abbrev pub IsChanged : List Bool → List Bool → ℕ → Type 0
IsChanged before after page = flag_of before page ≢ flag_of after page

-- The first and the last page of those that changed.
pub record IsSpan (before after : List Bool) (span : PageSpan) : Type 0 where
  pub first : IsChanged before after span.first
  pub last : IsChanged before after span.last
  pub only : (page : ℕ) → page < end_page → IsChanged before after page → (span.first ≤ page) × (page ≤ span.last)

-- What is found of the pages that changed: the first and the last one, or that there are none.
abbrev pub FindsChanged : List Bool → List Bool → Option PageSpan → Type 0
FindsChanged before after found = MatchOption found ((page : ℕ) → page < end_page → flag_of before page ≡ flag_of after page) (IsSpan before after)

-- the number of bytes of the pages that changed, for C, and their addresses
abbrev pub pages_bytes : ℕ
pages_bytes = 12

abbrev pub pages_value : PageSpan → PagesFields
pages_value span = record { size = pages_bytes; first = page_bytes * span.first; last = page_bytes * span.last }

-- The pages that changed since the call before are returned, of a session without bytes, and the session knows how all pages are now.
abbrev pub AnswersPages : OpenValue → OpenValue → PagesFields → PagesFields → ℕ → Type 0
AnswersPages old new before after status = MatchOption old.pages
    ((new ≡ old) × (after ≡ before) × (status ≡ 40))
    (λ known. (flags : List Bool) × AreFlags old.session.walk.step flags × (new ≡ record old { pages = Some flags })
    × ((found : Option PageSpan) × FindsChanged known flags found × ReturnsOne found pages_value before after status))
