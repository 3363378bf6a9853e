-- The runs of the map follow one another: from a page at which a run begins, the next run begins at that page, or at the first page above.
use Rattle.std.proofs.Common.{◌≡◌, ◌⊎◌, ℕ, ◌+◌, ◌-◌, ◌*◌, ◌/◌, ◌<◌, ◌≤◌, Option, Some, None, IsSome, rules, arith, subst, sym, ap, ◌∙◌, inl, inr}
use Rattle.std.proofs.lemmas.Bool.{cases_lt}
use Rattle.std.specs.FinMap.{get}
use Rattle.std.specs.Option.{option_and_then}
use Rattle.mvs_model.specs.declared.name.Name.{Name}
use Rattle.mvs_model.specs.declared.report.MapRun.{MapRun}
use Rattle.mvs_model.specs.Owners.{Owners}
use Rattle.mvs_model.specs.Reports.{page_subpool}
use Rattle.mvs_model.specs.State.{State}
use Rattle.mvs_model.specs.View.{IsBounded}
use Rattle.request_forms.specs.Reports.{Begins, EndsAt, IsHolder, IsMapEnd, IsMapRun, IsPages, NoneBegins}
use Rattle.mvs_c.specs.Held.{BeginsNoRun, IsMapped, NoRunBetween}

-- A run of the map begins at a page, if it is in a region.
pub record StartsAt (owner : ℕ → Option ℕ) (below above page : ℕ) : Type 0 where
  pub lower : page < 6 + below → Begins owner 6 page
  pub upper : 4096 ≤ page → page < 4096 + above → Begins owner 4096 page

-- A run that begins at a page is found from there on.
found_at : (owner : ℕ → Option ℕ) (first from page end : ℕ) → NoneBegins owner first from end → Begins owner first page → first ≤ page → from ≤ 4096 * page → page < end → ⊥
found_at owner first from page end none begins low at high = let continues = none page low at high in begins continues.0 continues.1

-- So is one at the first page of a region.
found_first : (owner : ℕ → Option ℕ) (first from end : ℕ) → NoneBegins owner first from end → from ≤ 4096 * first → first < end → ⊥
found_first owner first from end none at high = let continues = none first (omega arith) at high in let same : first < first = continues.0 in omega (arith, same)

none_lower : (owner : ℕ → Option ℕ) (below above page end p : ℕ) → StartsAt owner below above page → 6 ≤ page → end ≤ 6 + below → NoneBegins owner 6 (4096 * page) end → page ≤ p → p < end → ⊥
none_lower owner below above page end p starts low small none at high =
    let inside : page < 6 + below = omega arith in
    let before : page < end = omega arith in
    let here : 4096 * page ≤ 4096 * page = omega arith in
    found_at owner 6 (4096 * page) page end none (starts.lower inside) low here before

none_upper : (owner : ℕ → Option ℕ) (below above page end p : ℕ) → StartsAt owner below above page → end ≤ 4096 + above → NoneBegins owner 4096 (4096 * page) end → 4096 ≤ p → page ≤ p → p < end → ⊥
none_upper owner below above page end p starts small none low at high = elim (cases_lt page 4096) [
  | inl less ↦ (let here : 4096 * page ≤ 4096 * 4096 = omega (arith, less) in let before : 4096 < end = omega (arith, low, high) in found_first owner 4096 (4096 * page) end none here before)
  | inr more ↦ (let inside : page < 4096 + above = omega (arith, at, high, small) in
      let here : 4096 * page ≤ 4096 * page = omega arith in
      let before : page < end = omega (arith, at, high) in
      found_at owner 4096 (4096 * page) page end none (starts.upper more inside) more here before)
]

-- The page is in a region.
abbrev pub IsRegionPage : ℕ → ℕ → ℕ → Type 0
IsRegionPage below above p = ((6 ≤ p) × (p < 6 + below)) ⊎ ((4096 ≤ p) × (p < 4096 + above))

-- If no run begins from there on, there are no more pages.
pub no_more_pages : (owner : ℕ → Option ℕ) (below above page p : ℕ) → StartsAt owner below above page → 6 ≤ page
    → NoneBegins owner 6 (4096 * page) (6 + below) → NoneBegins owner 4096 (4096 * page) (4096 + above) → IsRegionPage below above p → page ≤ p → ⊥
no_more_pages owner below above page p starts low none_below none_above (inl (from, to)) at = none_lower owner below above page (6 + below) p starts low (omega arith) none_below at to
no_more_pages owner below above page p starts low none_below none_above (inr (from, to)) at = none_upper owner below above page (4096 + above) p starts (omega arith) none_above from at to

-- the pages of the next run: no page is left out before them, they are assigned alike, and a run begins after them
pub record FollowsOn (owner : ℕ → Option ℕ) (below above page next count : ℕ) : Type 0 where
  pub none : (p : ℕ) → IsRegionPage below above p → page ≤ p → p < next → ⊥
  pub alike : (p : ℕ) → next ≤ p → p < next + count → owner p ≡ owner next
  pub some : next < next + count
  pub starts : StartsAt owner below above (next + count)

differs : (owner : ℕ → Option ℕ) (first end page stop : ℕ) → EndsAt owner page end stop → stop < end → Begins owner first stop
differs owner first end page stop ends less after same =
    let low = ends.low in
    let before : page ≤ stop - 1 = omega (arith, low) in
    let last : stop - 1 < stop = omega (arith, low) in
    ends.ends less (sym same ∙ ends.alike (stop - 1) before last)

pub follows_below : (owner : ℕ → Option ℕ) (below above page next count : ℕ) → StartsAt owner below above page → 6 ≤ page → below ≤ 2048
    → IsPages owner 6 (6 + below) next count → NoneBegins owner 6 (4096 * page) next → FollowsOn owner below above page next count
follows_below owner below above page next count starts low small pages none =
    let some = pages.ends.low in let high = pages.ends.high in
    let most : next ≤ 6 + below = omega (arith, some, high) in
    record {
      none = λ p inside at less. elim inside [
        | inl (from, to) ↦ none_lower owner below above page next p starts low most none at less
        | inr (from, to) ↦ absurd (omega (arith, from, less, most, small))
      ];
      alike = pages.ends.alike;
      some = some;
      starts = record {
        lower = λ inside. differs owner 6 (6 + below) next (next + count) pages.ends inside;
        upper = λ from inside. absurd (omega (arith, from, high, small));
      };
    }

pub follows_above : (owner : ℕ → Option ℕ) (below above page next count : ℕ) → StartsAt owner below above page → 6 ≤ page → below ≤ 2048
    → NoneBegins owner 6 (4096 * page) (6 + below) → IsPages owner 4096 (4096 + above) next count → NoneBegins owner 4096 (4096 * page) next → FollowsOn owner below above page next count
follows_above owner below above page next count starts low small none_below pages none =
    let some = pages.ends.low in let high = pages.ends.high in let from_first = pages.low in
    let most : next ≤ 4096 + above = omega (arith, some, high) in
    record {
      none = λ p inside at less. elim inside [
        | inl (from, to) ↦ none_lower owner below above page (6 + below) p starts low (omega arith) none_below at to
        | inr (from, to) ↦ none_upper owner below above page next p starts most none from at less
      ];
      alike = pages.ends.alike;
      some = some;
      starts = record {
        lower = λ inside. absurd (omega (arith, inside, from_first, some, small));
        upper = λ from inside. differs owner 4096 (4096 + above) next (next + count) pages.ends inside;
      };
    }

-- ---- a state

abbrev pub StartsIn : State → ℕ → Type 0
StartsIn st page = StartsAt (page_subpool st) st.regions.below st.regions.above page

pub next_pages : (st : State) (a page : ℕ) (run : MapRun) → a ≡ 4096 * page → IsBounded st.regions → StartsIn st page → 6 ≤ page
    → (r : IsMapRun st a run) → FollowsOn (page_subpool st) st.regions.below st.regions.above page r.page r.count
next_pages st a page run is bounded starts low r = elim (r.placed) as (λ _. FollowsOn (page_subpool st) st.regions.below st.regions.above page r.page r.count) [
  | inl (pages, none) ↦ follows_below (page_subpool st) st.regions.below st.regions.above page r.page r.count starts low bounded.below pages (subst (λ (x : ℕ). NoneBegins (page_subpool st) 6 x r.page) is none)
  | inr (below, pages, none) ↦ follows_above (page_subpool st) st.regions.below st.regions.above page r.page r.count starts low bounded.below
      (subst (λ (x : ℕ). NoneBegins (page_subpool st) 6 x (6 + st.regions.below)) is below) pages (subst (λ (x : ℕ). NoneBegins (page_subpool st) 4096 x r.page) is none)
]

-- A page that is assigned to a subpool with an owner is labelled on the map.
is_labelled : (o : Owners) (owner : Option ℕ) (s : ℕ) (label : Option (ℕ × Name)) → IsHolder o owner label → owner ≡ Some s → IsSome (get o.owner s) → IsSome label
is_labelled o owner s None none is some =
    let nobody : get o.owner s ≡ None = sym (ap (λ (v : Option ℕ). option_and_then (λ x. get o.owner x) v) is) ∙ none in
    subst (λ (v : Option Name). IsSome v) nobody some
is_labelled o owner s (Some l) holder is some = search rules

-- If the map ends at a page, no run begins after the ones before.
pub none_after : (st : State) (from a page : ℕ) → a ≡ 4096 * page → StartsIn st page → 6 ≤ page → IsMapEnd st a → NoRunBetween st from (512 * page)
    → (d : ℕ) → IsMapped st d → from ≤ d → BeginsNoRun st d
none_after st from a page is starts low (below, above) none d mapped at = elim (cases_lt d (512 * page)) as (λ _. BeginsNoRun st d) [
  | inl less ↦ none d mapped at less
  | inr more ↦ (let later : page ≤ d / 512 = omega (arith, more) in
      absurd (no_more_pages (page_subpool st) st.regions.below st.regions.above page (d / 512) starts low
      (subst (λ (x : ℕ). NoneBegins (page_subpool st) 6 x (6 + st.regions.below)) is below)
      (subst (λ (x : ℕ). NoneBegins (page_subpool st) 4096 x (4096 + st.regions.above)) is above) mapped.page later))
]

-- No run begins before the first one on the next pages.
pub none_before : (st : State) (from a page first : ℕ) (run : MapRun) → a ≡ 4096 * page → IsBounded st.regions → StartsIn st page → 6 ≤ page → IsMapRun st a run
    → NoRunBetween st from (512 * page) → ((d : ℕ) → run.addr ≤ 8 * d → from ≤ d → d < first → BeginsNoRun st d) → NoRunBetween st from first
none_before st from a page first run is bounded starts low r none here d mapped at less = elim (cases_lt d (512 * page)) as (λ _. BeginsNoRun st d) [
  | inl before ↦ none d mapped at before
  | inr after ↦ elim (cases_lt (d / 512) r.page) as (λ _. BeginsNoRun st d) [
    | inl gap ↦ (let later : page ≤ d / 512 = omega (arith, after) in absurd ((next_pages st a page run is bounded starts low r).none (d / 512) mapped.page later gap))
    | inr inside ↦ (let on : run.addr ≤ 8 * d = omega (arith, inside, r.addr) in here d on at less)
  ]
]

-- Nor on these pages, if none begins there.
none_next : (st : State) (from a page : ℕ) (run : MapRun) → a ≡ 4096 * page → IsBounded st.regions → StartsIn st page → 6 ≤ page → (r : IsMapRun st a run)
    → NoRunBetween st from (512 * page) → (IsSome run.holder → (d : ℕ) → run.addr ≤ 8 * d → 8 * d < run.addr + run.len → from ≤ d → BeginsNoRun st d)
    → NoRunBetween st from (512 * (r.page + r.count))
none_next st from a page run is bounded starts low r none here d mapped at less = elim (cases_lt d (512 * page)) as (λ _. BeginsNoRun st d) [
  | inl before ↦ none d mapped at before
  | inr after ↦ elim (cases_lt (d / 512) r.page) as (λ _. BeginsNoRun st d) [
    | inl gap ↦ (let later : page ≤ d / 512 = omega (arith, after) in absurd ((next_pages st a page run is bounded starts low r).none (d / 512) mapped.page later gap))
    | inr inside ↦ (
        let on : run.addr ≤ 8 * d = omega (arith, inside, r.addr) in
        let last : d / 512 < r.page + r.count = omega (arith, less) in
        let short : 8 * d < run.addr + run.len = omega (arith, last, r.addr, r.len) in
        let same : page_subpool st r.page ≡ Some mapped.subpool = sym ((next_pages st a page run is bounded starts low r).alike (d / 512) inside last) ∙ mapped.assigned in
        here (is_labelled st.owners (page_subpool st r.page) mapped.subpool run.holder r.holder same mapped.owned) d on short at)
  ]
]

-- What is known before each run of the map.
pub record Scanned (st : State) (from i page : ℕ) : Type 0 where
  pub least : 6 + i ≤ page
  pub most : page ≤ 12288
  pub starts : StartsIn st page
  pub none : NoRunBetween st from (512 * page)

pub scans_on : (st : State) (from i a page to : ℕ) (run : MapRun) → a ≡ 4096 * page → IsBounded st.regions → Scanned st from i page → IsMapRun st a run → to ≡ (run.addr + run.len) / 4096
    → (IsSome run.holder → (d : ℕ) → run.addr ≤ 8 * d → 8 * d < run.addr + run.len → from ≤ d → BeginsNoRun st d) → Scanned st from (i + 1) to
scans_on st from i a page to run is bounded scanned r end here =
    let low : 6 ≤ page = omega (arith, scanned.least) in
    let same : r.page + r.count ≡ to = omega (arith, end, r.addr, r.len) in
    let at : page ≤ r.page = omega (arith, is, r.after, r.addr) in
    let more : r.page < r.page + r.count = (next_pages st a page run is bounded scanned.starts low r).some in
    record {
      least = omega (arith, scanned.least, at, more, same);
      most = omega (arith, r.end, r.addr, r.len, same);
      starts = subst (λ (p : ℕ). StartsIn st p) same (next_pages st a page run is bounded scanned.starts low r).starts;
      none = subst (λ (p : ℕ). NoRunBetween st from (512 * p)) same (none_next st from a page run is bounded scanned.starts low r scanned.none here);
    }
