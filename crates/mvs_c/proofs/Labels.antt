-- The subpool that a page is assigned to, as a run of the map says.
use Rattle.std.proofs.Common.{◌≡◌, ℕ, ◌+◌, ◌*◌, ◌/◌, ◌<◌, ◌≤◌, None, refl, subst, arith}
use Rattle.mvs_model.specs.declared.report.MapRun.{MapRun}
use Rattle.mvs_model.specs.Reports.{page_subpool}
use Rattle.mvs_model.specs.State.{State}
use Rattle.mvs_model.specs.View.{IsBounded}
use Rattle.request_forms.specs.Reports.{IsMapEnd, IsMapRun, NoneBegins}
use Rattle.mvs_c.specs.Held.{IsRegionPage}
use Rattle.mvs_c.specs.Pools.{IsPageLabel}
use Rattle.mvs_c.proofs.Mapped.{StartsIn, next_pages, no_more_pages}

-- The pages before the next one are passed.
abbrev pub Passed : State → ℕ → ℕ → Type 0
Passed st next page = IsRegionPage st.regions page → next ≤ page

-- If no further run begins, the page is in no region.
pub no_run : (st : State) (a next page : ℕ) → a ≡ 4096 * next → StartsIn st next → 6 ≤ next → Passed st next page → IsMapEnd st a → IsPageLabel st page None
no_run st a next page is starts low passed (below, above) = record {
  inside = λ region. absurd (no_more_pages (page_subpool st) st.regions.below st.regions.above next page starts low
      (subst (λ (x : ℕ). NoneBegins (page_subpool st) 6 x (6 + st.regions.below)) is below)
      (subst (λ (x : ℕ). NoneBegins (page_subpool st) 4096 x (4096 + st.regions.above)) is above) region (passed region));
  outside = λ _. refl;
}

-- So it is if the next run begins after it.
pub later_run : (st : State) (a next page first : ℕ) (run : MapRun) → a ≡ 4096 * next → IsBounded st.regions → StartsIn st next → 6 ≤ next → Passed st next page → IsMapRun st a run → first ≡ run.addr → page < first / 4096 → IsPageLabel st page None
later_run st a next page first run is bounded starts low passed r at less = record {
  inside = λ region. absurd (let before : page < r.page = omega (arith, less, at, r.addr) in (next_pages st a next run is bounded starts low r).none page region (passed region) before);
  outside = λ _. refl;
}
