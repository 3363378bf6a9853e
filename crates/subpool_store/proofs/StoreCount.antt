-- What an obtain has to look at in both regions.
use Rattle.std.proofs.Common.{◌≡◌, ◌∙◌, ℕ, ◌+◌, ◌-◌, ◌*◌, ◌/◌, ◌%◌, ◌<◌, ◌≤◌, ◌⊎◌, ◌&&◌, ◌||◌, not, false, Option, Some, None, is_some, eqb, refl, sym, ap, subst, inl, inr, arith}
use Rattle.std.proofs.lemmas.Bool.{cases_eq, eq-eqb, le-ltb, and_right}
use Rattle.std.proofs.lemmas.Option.{none-some}
use Rattle.std.specs.Prelude.{nat_lt}
use Rattle.std.specs.FinMap.{get}
use Rattle.mvs_model.specs.Finite.{count_below, has}
use Rattle.mvs_model.specs.Place.{PlaceValue}
use Rattle.mvs_model.specs.Storage.{IsLength, end_of, holder}
use Rattle.mvs_model.specs.Want.{IsWant, WantValue}
use Rattle.mvs_model.specs.declared.want.Side.TheVariants.{Below, Either}
use Rattle.mvs_model.specs.FreeRuns.{begins_free_run, free_runs, holds_in_page}
use Rattle.subpool_store.specs.Bound.{IsBound, page_entries, most_steps}
use Rattle.subpool_store.specs.Region.{BestIn, RegionState}
use Rattle.subpool_store.specs.Joined.{BestAbove, CountedAbove, IsStore, regions_of, store_of}
use Rattle.subpool_store.specs.Search.{Beats, IsCounted}
use Rattle.subpool_store.proofs.Begun.{least_length}
use Rattle.subpool_store.proofs.FewRuns.{runs_few}
use Rattle.subpool_store.proofs.Both.{high_holder, low_holder}
use Rattle.subpool_store.proofs.Counts.{count_middle, count_most, count_split}
use Rattle.mvs_model.proofs.Below.{count_same, count_none}

-- a run begins where it does in a map that has the same page
pub begins_same : (f g : ℕ → Option ℕ) (s d : ℕ) → ((e : ℕ) → e / 512 ≡ d / 512 → f e ≡ g e) → begins_free_run f s d ≡ begins_free_run g s d
begins_same f g s d same = λ j. not (is_some (same d refl j)) && (page j && before j) where
  page : holds_in_page f s (d / 512) ≡ holds_in_page g s (d / 512)
  page = ap (λ n. nat_lt 0 n) (count_same 512 (λ i. has (λ t. eqb t s) (f (512 * (d / 512) + i))) (λ i. has (λ t. eqb t s) (g (512 * (d / 512) + i))) (λ i low. ap (has (λ t. eqb t s)) (same (512 * (d / 512) + i) (omega (arith, low)))))

  before : (eqb (d % 512) 0 || is_some (f (d - 1))) ≡ (eqb (d % 512) 0 || is_some (g (d - 1)))
  before = elim (cases_eq (d % 512) 0) [
    | inl zero ↦ ap (λ b. b || is_some (f (d - 1))) (eq-eqb (d % 512) 0 zero) ∙ sym (ap (λ b. b || is_some (g (d - 1))) (eq-eqb (d % 512) 0 zero))
    | inr other ↦ ap (λ o. eqb (d % 512) 0 || is_some o) (same (d - 1) (omega (arith, other)))
  ]

-- no run of s begins in a page of which nothing is held
pub begins_none : (f : ℕ → Option ℕ) (s d : ℕ) → ((e : ℕ) → e / 512 ≡ d / 512 → f e ≡ None) → begins_free_run f s d ≡ false
begins_none f s d none = ap (λ b. not (is_some (f d)) && (b && (eqb (d % 512) 0 || is_some (f (d - 1))))) page ∙ and_right (not (is_some (f d))) false refl where
  page : holds_in_page f s (d / 512) ≡ false
  page = le-ltb 0 _ (let zero = count_none 512 (λ i. has (λ t. eqb t s) (f (512 * (d / 512) + i))) (λ i low. ap (has (λ t. eqb t s)) (none (512 * (d / 512) + i) (omega (arith, low)))) in omega (arith, zero))

module _ (b a : RegionState) (fill : ℕ) (both : IsStore b a) (s : ℕ) where
  first_b : b.first ≡ 3072
  first_b = both.first_below

  few_b : b.pages ≤ 2048
  few_b = both.few_below

  first_a : a.first ≡ 2097152
  first_a = both.first_above

  few_a : a.pages ≤ 8192
  few_a = both.few_above

  outside_b : (d : ℕ) → (d < 3072) ⊎ (3072 + 512 * b.pages ≤ d) → get b.held d ≡ None
  outside_b d out = by (get b.held d) refl where
    by : (o : Option ℕ) → get b.held d ≡ o → get b.held d ≡ None
    by None e = e
    by (Some t) e = let at = both.sound_below.bounded d t e in let first = first_b in elim out [ inl low ↦ absurd (omega (arith, at.0, low)) | inr past ↦ absurd (omega (arith, at.1, past)) ]

  -- the runs below, in the storage and in the region
  pub runs_below : count_below 2097152 (begins_free_run (holder (store_of b a fill)) s) ≡ count_below (512 * b.pages) (λ i. begins_free_run (get b.held) s (b.first + i))
  runs_below =
      let f = first_b in let m = few_b in
      count_same 2097152 (begins_free_run (holder (store_of b a fill)) s) (begins_free_run (get b.held) s) (λ d low. begins_same (holder (store_of b a fill)) (get b.held) s d (λ e page. low_holder b a fill e (omega (arith, page, low))))
      ∙ count_middle 2097152 b.first (512 * b.pages) (2097152 - 3072 - 512 * b.pages) (begins_free_run (get b.held) s) (omega arith)
      (λ d before. begins_none (get b.held) s d (λ e page. outside_b e (inl (omega (arith, f, before, page)))))
      (λ d trailing to. begins_none (get b.held) s d (λ e page. outside_b e (inr (omega (arith, f, trailing, page)))))

  -- the runs above
  pub runs_above : count_below (512 * a.pages) (λ i. begins_free_run (holder (store_of b a fill)) s (2097152 + i)) ≡ count_below (512 * a.pages) (λ i. begins_free_run (get a.held) s (a.first + i))
  runs_above =
      let f = first_a in let m = few_a in
      count_same (512 * a.pages) (λ i. begins_free_run (holder (store_of b a fill)) s (2097152 + i)) (λ i. begins_free_run (get a.held) s (a.first + i)) (λ i low.
      begins_same (holder (store_of b a fill)) (get a.held) s (2097152 + i) (λ e page. high_holder b a fill e (omega (arith, page)) (omega (arith, page, low, m)))
      ∙ ap (λ x. begins_free_run (get a.held) s (x + i)) (sym f))

  all_below : page_entries (regions_of b a fill) Below + free_runs (regions_of b a fill) (holder (store_of b a fill)) s Below ≡ most_steps b s
  all_below = ap (λ n. b.pages + n) runs_below

  all_either : page_entries (regions_of b a fill) Either + free_runs (regions_of b a fill) (holder (store_of b a fill)) s Either ≡ most_steps a s + most_steps b s
  all_either =
      let split : count_below (end_of (regions_of b a fill)) (begins_free_run (holder (store_of b a fill)) s) ≡ count_below 2097152 (begins_free_run (holder (store_of b a fill)) s) + count_below (512 * a.pages) (λ i. begins_free_run (holder (store_of b a fill)) s (2097152 + i)) =
      count_split (end_of (regions_of b a fill)) 2097152 (512 * a.pages) (begins_free_run (holder (store_of b a fill)) s) refl in
      omega (arith, split, runs_below, runs_above)

  -- a region with a place has pages
  place_pages : (h : RegionState) (want : WantValue) (p : PlaceValue) → IsWant want → BestIn h s want (Some p) → 1 ≤ h.pages
  place_pages h want p ok best = let inside = best.is_open.inside in let long = best.length.least in let some = ok.some in omega (arith, inside.0, inside.1, long, some)

  module _ (want : WantValue) (ok : IsWant want) (place : Option PlaceValue) (steps : ℕ) (best : BestAbove a s want place) (counted : CountedAbove a s want place steps) where
    -- the search above alone
    pub bound_above : ((n : ℕ) → IsLength want n → Beats place n) → IsBound (store_of b a fill) s want.side place steps
    bound_above longest = by place refl best where
      beats : Beats place want.least
      beats = longest want.least (least_length want ok)

      by : (r : Option PlaceValue) → place ≡ r → BestAbove a s want r → IsBound (store_of b a fill) s want.side place steps
      by None e above = absurd (subst (λ r. Beats r want.least) e beats)
      by (Some p) e above = elim counted [
        | inr none ↦ absurd (none-some p (sym none.1 ∙ e))
        | inl real ↦ elim above [
          | inr gone ↦ absurd (none-some p (sym gone.1))
          | inl found ↦
              let pages = place_pages a want p ok found in
              let most : page_entries (regions_of b a fill) want.side + free_runs (regions_of b a fill) (holder (store_of b a fill)) s want.side ≡ most_steps a s + most_steps b s = ap (λ x. page_entries (regions_of b a fill) x + free_runs (regions_of b a fill) (holder (store_of b a fill)) s x) real.0 ∙ all_either in record {
                some = real.1.some (omega (arith, pages));
                at_most = let few = real.1.at_most in omega (arith, few, most);
                few = let few = real.1.at_most in let runs = runs_few (store_of b a fill) s want.side in omega (arith, few, most, runs);
                all = λ none. absurd (none-some p (sym none ∙ e));
              }
        ]
      ]

    -- the search above and the one below
    pub bound_both : (r : Option PlaceValue) (more : ℕ) (result : Option PlaceValue) → IsCounted (most_steps b s) r more → (result ≡ None → (place ≡ None) × (r ≡ None)) → IsBound (store_of b a fill) s want.side result (steps + more)
    bound_both r more result other none = elim counted [
      | inl real ↦
          let most : page_entries (regions_of b a fill) want.side + free_runs (regions_of b a fill) (holder (store_of b a fill)) s want.side ≡ most_steps a s + most_steps b s = ap (λ x. page_entries (regions_of b a fill) x + free_runs (regions_of b a fill) (holder (store_of b a fill)) s x) real.0 ∙ all_either in record {
            some = let one = other.some (let some = both.some_below in omega (arith, some)) in omega (arith, one);
            at_most = let few = real.1.at_most in let less = other.at_most in omega (arith, few, less, most);
            few = let few = real.1.at_most in let less = other.at_most in let runs = runs_few (store_of b a fill) s want.side in omega (arith, few, less, most, runs);
            all = λ gone. let no_place = none gone in let x = real.1.all no_place.0 in let y = other.all no_place.1 in omega (arith, x, y, most);
          }
      | inr below ↦
          let most : page_entries (regions_of b a fill) want.side + free_runs (regions_of b a fill) (holder (store_of b a fill)) s want.side ≡ most_steps b s = ap (λ x. page_entries (regions_of b a fill) x + free_runs (regions_of b a fill) (holder (store_of b a fill)) s x) below.0 ∙ all_below in
          let zero = below.2 in record {
            some = let one = other.some (let some = both.some_below in omega (arith, some)) in omega (arith, one);
            at_most = let less = other.at_most in omega (arith, less, most, zero);
            few = let less = other.at_most in let runs = runs_few (store_of b a fill) s want.side in omega (arith, less, most, zero, runs);
            all = λ gone. let y = other.all (none gone).1 in omega (arith, y, most, zero);
          }
    ]

    -- both are few
    pub few_steps : (r : Option PlaceValue) (more : ℕ) → IsCounted (most_steps b s) r more → steps + more ≤ 10485760
    few_steps r more other =
        let count_b = count_most (512 * b.pages) (λ i. begins_free_run (get b.held) s (b.first + i)) in
        let count_a = count_most (512 * a.pages) (λ i. begins_free_run (get a.held) s (a.first + i)) in
        let fa = few_a in let fb = few_b in let less = other.at_most in
        elim counted [
          | inl real ↦ let few = real.1.at_most in omega (arith, few, less, count_a, count_b, fa, fb)
          | inr below ↦ let zero = below.2 in omega (arith, zero, less, count_b, fb)
        ]

-- where the better of two places is none, there is neither
pub neither : (one other r : Option PlaceValue) → ((n : ℕ) → Beats one n → Beats r n) → ((n : ℕ) → Beats other n → Beats r n) → r ≡ None → (one ≡ None) × (other ≡ None)
neither one other r first second none = (gone one first, gone other second) where
  gone : (o : Option PlaceValue) → ((n : ℕ) → Beats o n → Beats r n) → o ≡ None
  gone None beats = refl
  gone (Some p) beats = absurd (subst (λ q. Beats q p.len) none (beats p.len (omega arith)))
