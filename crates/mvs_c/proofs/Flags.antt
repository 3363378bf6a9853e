-- The flags of pages that a run of the map gives.
use Rattle.std.proofs.Common.{◌≡◌, ℕ, ◌+◌, ◌*◌, ◌/◌, ◌<◌, ◌≤◌, Bool, true, false, is_some, List, Option, Some, None, IsSome, arith, refl, subst, sym, ◌∙◌, inl, inr}
use Rattle.std.proofs.lemmas.Bool.{cases_lt}
use Rattle.std.specs.FinMap.{get}
use Rattle.std.specs.Option.{option_and_then}
use Rattle.mvs_model.specs.declared.name.Name.{Name}
use Rattle.mvs_model.specs.declared.report.MapRun.{MapRun}
use Rattle.mvs_model.specs.Owners.{Owners}
use Rattle.mvs_model.specs.Reports.{page_subpool}
use Rattle.mvs_model.specs.State.{State}
use Rattle.mvs_model.specs.View.{IsBounded}
use Rattle.request_forms.specs.Reports.{IsHolder, IsMapEnd, IsMapRun, NoneBegins}
use Rattle.mvs_c.specs.Held.{IsRegionPage}
use Rattle.mvs_c.specs.Pages.{IsAssigned, IsFlagOf, flag_of}
use Rattle.mvs_c.proofs.Mapped.{StartsIn, next_pages, no_more_pages}

-- whether the subpool of a page has an owner
abbrev owned_by : Owners → Option ℕ → Option Name
owned_by o owner = option_and_then (λ s. get o.owner s) owner

-- A run has a label if the subpool of its pages has an owner.
is_owned : (o : Owners) (owner : Option ℕ) (label : Option (ℕ × Name)) → IsHolder o owner label → IsFlagOf (IsSome (owned_by o owner)) (is_some label)
is_owned o owner None none = λ some. let e : false ≡ true = subst (λ (v : Option Name). is_some v ≡ true) none some in cc
is_owned o owner (Some l) (s, is, has, number) = subst (λ (v : Option ℕ). IsSome (owned_by o v)) (sym is) (subst (λ (v : Option Name). IsSome v) (sym has) refl)

-- The pages of a run are in a region.
in_region : (st : State) (a page : ℕ) (run : MapRun) (r : IsMapRun st a run) → r.page ≤ page → page < r.page + r.count → IsRegionPage st.regions page
in_region st a page run r low high = elim (r.placed) as (λ _. IsRegionPage st.regions page) [
  | inl (pages, none) ↦ (let first = pages.low in let end = pages.ends.high in inl (omega (arith, first, low), omega (arith, end, high)))
  | inr (below, pages, none) ↦ (let first = pages.low in let end = pages.ends.high in inr (omega (arith, first, low), omega (arith, end, high)))
]

assigned_so : (st : State) (page : ℕ) (flag : Bool) → IsRegionPage st.regions page → IsFlagOf (IsSome (owned_by st.owners (page_subpool st page))) flag → IsFlagOf (IsAssigned st page) flag
assigned_so st page true region owned = record { region = region; owned = owned }
assigned_so st page false region none = λ assigned. none assigned.owned

-- Each page of a run has the flag of whether the run is labelled.
on_run : (st : State) (a next page : ℕ) (run : MapRun) → a ≡ 4096 * next → IsBounded st.regions → StartsIn st next → 6 ≤ next → (r : IsMapRun st a run)
    → r.page ≤ page → page < r.page + r.count → IsFlagOf (IsAssigned st page) (is_some run.holder)
on_run st a next page run is bounded starts low r from to =
    let alike = (next_pages st a next run is bounded starts low r).alike page from to in
    assigned_so st page (is_some run.holder) (in_region st a page run r from to)
    (subst (λ (owner : Option ℕ). IsFlagOf (IsSome (owned_by st.owners owner)) (is_some run.holder)) (sym alike) (is_owned st.owners (page_subpool st r.page) run.holder r.holder))

-- The flags of the pages before another one.
abbrev pub FlagsBefore : State → ℕ → List Bool → Type 0
FlagsBefore st next flags = (page : ℕ) → page < next → IsFlagOf (IsAssigned st page) (flag_of flags page)

flag_is : (st : State) (flags : List Bool) (page : ℕ) (flag : Bool) → flag_of flags page ≡ flag → IsFlagOf (IsAssigned st page) flag → IsFlagOf (IsAssigned st page) (flag_of flags page)
flag_is st flags page flag is so = subst (λ (f : Bool). IsFlagOf (IsAssigned st page) f) (sym is) so

-- If the map ends, no page after those before is assigned.
pub flags_at_end : (st : State) (a next : ℕ) (old new : List Bool) → a ≡ 4096 * next → StartsIn st next → 6 ≤ next → IsMapEnd st a → FlagsBefore st next old
    → ((page : ℕ) → page < next → flag_of new page ≡ flag_of old page) → ((page : ℕ) → next ≤ page → page < 12288 → flag_of new page ≡ false) → FlagsBefore st 12288 new
flags_at_end st a next old new is starts low (below, above) flags before set page less = elim (cases_lt page next) as (λ _. IsFlagOf (IsAssigned st page) (flag_of new page)) [
  | inl early ↦ flag_is st new page (flag_of old page) (before page early) (flags page early)
  | inr later ↦ flag_is st new page false (set page later less) (λ assigned. no_more_pages (page_subpool st) st.regions.below st.regions.above next page starts low
      (subst (λ (x : ℕ). NoneBegins (page_subpool st) 6 x (6 + st.regions.below)) is below)
      (subst (λ (x : ℕ). NoneBegins (page_subpool st) 4096 x (4096 + st.regions.above)) is above) assigned.region later)
]

-- What is known of the flags before each run of the map.
pub record Flagged (st : State) (i next : ℕ) (known : List Bool) : Type 0 where
  pub least : 6 + i ≤ next
  pub most : next ≤ 12288
  pub starts : StartsIn st next
  pub flags : FlagsBefore st next known

-- A page before the next run is in no region.
in_gap : (st : State) (a next page : ℕ) (run : MapRun) → a ≡ 4096 * next → IsBounded st.regions → StartsIn st next → 6 ≤ next → (r : IsMapRun st a run)
    → next ≤ page → page < r.page → IsAssigned st page → ⊥
in_gap st a next page run is bounded starts low r from to assigned = (next_pages st a next run is bounded starts low r).none page assigned.region from to

pub flags_on_run : (st : State) (a i next first end : ℕ) (run : MapRun) (old middle new : List Bool) (flag : Bool) → a ≡ 4096 * next → IsBounded st.regions
    → Flagged st i next old → IsMapRun st a run → first ≡ run.addr / 4096 → end ≡ (run.addr + run.len) / 4096 → flag ≡ is_some run.holder
    → ((page : ℕ) → page < next → flag_of middle page ≡ flag_of old page) → ((page : ℕ) → next ≤ page → page < first → flag_of middle page ≡ false)
    → ((page : ℕ) → page < first → flag_of new page ≡ flag_of middle page) → ((page : ℕ) → first ≤ page → page < end → flag_of new page ≡ flag)
    → Flagged st (i + 1) end new
flags_on_run st a i next first end run old middle new flag is bounded flagged r starts_at ends_at label before gap kept set =
    let low : 6 ≤ next = omega (arith, flagged.least) in
    let here : first ≡ r.page = omega (arith, starts_at, r.addr) in
    let there : end ≡ r.page + r.count = omega (arith, ends_at, r.addr, r.len) in
    let at : next ≤ r.page = omega (arith, is, r.after, r.addr) in
    let more : r.page < r.page + r.count = (next_pages st a next run is bounded flagged.starts low r).some in
    record {
      least = omega (arith, flagged.least, at, more, there);
      most = omega (arith, r.end, r.addr, r.len, there);
      starts = subst (λ (p : ℕ). StartsIn st p) (sym there) (next_pages st a next run is bounded flagged.starts low r).starts;
      flags = λ page less. elim (cases_lt page r.page) as (λ _. IsFlagOf (IsAssigned st page) (flag_of new page)) [
        | inl early ↦ (let passed : page < first = omega (arith, early, here) in
            let same : flag_of new page ≡ flag_of middle page = kept page passed in
            elim (cases_lt page next) as (λ _. IsFlagOf (IsAssigned st page) (flag_of new page)) [
              | inl first_of_all ↦ flag_is st new page (flag_of old page) (same ∙ before page first_of_all) (flagged.flags page first_of_all)
              | inr between ↦ flag_is st new page false (same ∙ gap page between passed) (in_gap st a next page run is bounded flagged.starts low r between early)
            ])
        | inr later ↦ (let from : first ≤ page = omega (arith, later, here) in
            let to : page < r.page + r.count = omega (arith, less, there) in
            flag_is st new page (is_some run.holder) (set page from less ∙ label) (on_run st a next page run is bounded flagged.starts low r later to))
      ];
    }
