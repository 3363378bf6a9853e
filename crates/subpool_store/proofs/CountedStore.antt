-- The counts of a store once a place in it is taken or given back, or subpools are dropped.
use Rattle.std.proofs.Common.{◌≡◌, ℕ, ◌+◌, ◌-◌, ◌*◌, ◌/◌, ◌%◌, ◌≤◌, inl, inr, true, cond, List, Option, Some, None, eqb, sym, ap, ◌∙◌, subst, arith}
use Rattle.std.proofs.lemmas.Bool.{cases_Bool}
use Rattle.std.proofs.lemmas.Bool.Decides.{nat_tests}
use Rattle.std.specs.FinMap.{get}
use Rattle.mvs_model.specs.Place.{PlaceValue}
use Rattle.mvs_model.specs.Storage.{Covers, HeldBy, InRegion, IsWhole, Open, PageRule, Regions, ReleaseEach, covers, end_of, is_one_of}
use Rattle.subpool_store.specs.FreePages.{free_pages}
use Rattle.subpool_store.specs.Joined.{IsStore, Taken, all_held, regions_of, store_of}
use Rattle.subpool_store.specs.Region.{RegionState}
use Rattle.subpool_store.specs.SubpoolCounts.{AreCounts, assigned_pages, count_of, held_doublewords, no_count}
use Rattle.subpool_store.specs.declared.subpool_counts.SubpoolCount.{SubpoolCount}
use Rattle.subpool_store.proofs.Both.{storage_of}
use Rattle.subpool_store.proofs.Recounting.{all_free, assigned_other, count_place, counts_cleared, counts_set, held_more, held_of_other, sum_of_pages}

-- a doubleword that a place has
covers_is : (p : PlaceValue) (d : ℕ) → covers p d ≡ true → Covers p d
covers_is p d hit = (grind (arith, nat_tests), grind (arith, nat_tests))

module _ (b a b' a' : RegionState) (fill s : ℕ) (p : PlaceValue) (both : IsStore b a) (both' : IsStore b' a') (whole : IsWhole p) (some : 1 ≤ p.len) (counts : List SubpoolCount) (are : AreCounts (regions_of b a fill) (get (all_held b a)) counts) where
  abbrev was : ℕ → Option ℕ
  was = get (all_held b a)

  abbrev now : ℕ → Option ℕ
  now = get (all_held b' a')

  abbrev regions : Regions
  regions = regions_of b a fill

  rule : PageRule was
  rule = (storage_of b a fill both).pages

  rule' : PageRule now
  rule' = (storage_of b' a' fill both').pages

  -- the place is before the end of the regions
  ends : InRegion regions p → p.addr + p.len ≤ 8 * end_of regions
  ends (inl low) = let few : b.pages ≤ 2048 = both.few_below in omega (arith, low)
  ends (inr high) = omega (arith, high)

  -- the new counts, where only those of s change
  changed : regions_of b' a' fill ≡ regions → ((t : ℕ) → (t ≡ s → ⊥) → assigned_pages regions now t ≡ assigned_pages regions was t) → ((t : ℕ) → (t ≡ s → ⊥) → held_doublewords regions now t ≡ held_doublewords regions was t)
      → (counts' : List SubpoolCount) (count : SubpoolCount) → ((t : ℕ) → count_of counts' t ≡ cond (eqb t s) count (count_of counts t)) → count.pages ≡ assigned_pages regions now s → count.held ≡ held_doublewords regions now s
      → AreCounts (regions_of b' a' fill) now counts'
  changed same pages_same held_same counts' count set is_pages is_held =
      subst (λ r. AreCounts r now counts') (sym same) (counts_set regions was now s counts counts' count are set is_pages is_held (λ t other. (pages_same t other, held_same t other)))

  -- the free pages of the new regions
  new_free : regions_of b' a' fill ≡ regions → (free : ℕ) → free ≡ free_pages (store_of b' a' fill) 6 b'.pages + free_pages (store_of b' a' fill) 4096 a'.pages → free ≡ all_free regions now
  new_free same free is = is ∙ ap (λ r. all_free r now) same

  module _ (is_open : Open regions was s p) (taken : Taken (store_of b a fill) p (Some s) (Some fill) (store_of b' a' fill)) where
    free_before : (d : ℕ) → covers p d ≡ true → was d ≡ None
    free_before d hit = (is_open.each d (covers_is p d hit)).free

    pub taken_pages : (free free' : ℕ) → free ≡ free_pages (store_of b a fill) 6 b.pages + free_pages (store_of b a fill) 4096 a.pages → free' ≡ free_pages (store_of b' a' fill) 6 b'.pages + free_pages (store_of b' a' fill) 4096 a'.pages
        → assigned_pages regions now s + free' ≡ (count_of counts s).pages + free
    taken_pages free free' is is' = omega (arith, sum_of_pages s was now (covers p) taken.held free_before rule' regions, is, new_free taken.regions free' is', are.pages s)

    pub taken_held : held_doublewords regions now s ≡ (count_of counts s).held + p.len / 8
    taken_held = omega (arith, held_more s was now (covers p) taken.held free_before rule' (end_of regions), count_place p (end_of regions) whole (ends is_open.inside), are.held s)

    pub taken_counts : (counts' : List SubpoolCount) (count : SubpoolCount) → ((t : ℕ) → count_of counts' t ≡ cond (eqb t s) count (count_of counts t)) → count.pages ≡ assigned_pages regions now s → count.held ≡ held_doublewords regions now s
        → AreCounts (regions_of b' a' fill) now counts'
    taken_counts = changed taken.regions (assigned_other s was now (covers p) taken.held free_before rule' regions) (λ t. held_of_other s was now (covers p) taken.held free_before rule' (end_of regions) t)

  module _ (held : HeldBy (store_of b a fill) s p) (given : Taken (store_of b a fill) p None None (store_of b' a' fill)) where
    free_after : (d : ℕ) → covers p d ≡ true → now d ≡ None
    free_after d hit = given.held d ∙ ap (λ t. cond t None (was d)) hit

    before : (d : ℕ) → was d ≡ cond (covers p d) (Some s) (now d)
    before d = elim (cases_Bool (covers p d)) [
      | inl hit ↦ held d (covers_is p d hit) ∙ sym (ap (λ t. cond t (Some s) (now d)) hit)
      | inr miss ↦ sym (given.held d ∙ ap (λ t. cond t None (was d)) miss) ∙ sym (ap (λ t. cond t (Some s) (now d)) miss)
    ]

    before_end : p.addr + p.len ≤ 8 * end_of regions
    before_end =
        let u : p.addr % 8 ≡ 0 = whole.0 in
        let v : p.len % 8 ≡ 0 = whole.1 in
        at ((storage_of b a fill both).inside ((p.addr + p.len) / 8 - 1) s (held ((p.addr + p.len) / 8 - 1) (omega arith, omega arith)))
      where
        at : InRegion regions (record { addr = 8 * ((p.addr + p.len) / 8 - 1); len = 8 }) → p.addr + p.len ≤ 8 * end_of regions
        at (inl low) = let u : p.addr % 8 ≡ 0 = whole.0 in let v : p.len % 8 ≡ 0 = whole.1 in let few : b.pages ≤ 2048 = both.few_below in omega (arith, low)
        at (inr high) = let u : p.addr % 8 ≡ 0 = whole.0 in let v : p.len % 8 ≡ 0 = whole.1 in omega (arith, high)

    pub given_pages : (free free' : ℕ) → free ≡ free_pages (store_of b a fill) 6 b.pages + free_pages (store_of b a fill) 4096 a.pages → free' ≡ free_pages (store_of b' a' fill) 6 b'.pages + free_pages (store_of b' a' fill) 4096 a'.pages
        → assigned_pages regions now s + free' ≡ (count_of counts s).pages + free
    given_pages free free' is is' = omega (arith, sum_of_pages s now was (covers p) before free_after rule regions, is, new_free given.regions free' is', are.pages s)

    pub given_held : held_doublewords regions now s + p.len / 8 ≡ (count_of counts s).held
    given_held = omega (arith, held_more s now was (covers p) before free_after rule (end_of regions), count_place p (end_of regions) whole before_end, are.held s)

    pub given_counts : (counts' : List SubpoolCount) (count : SubpoolCount) → ((t : ℕ) → count_of counts' t ≡ cond (eqb t s) count (count_of counts t)) → count.pages ≡ assigned_pages regions now s → count.held ≡ held_doublewords regions now s
        → AreCounts (regions_of b' a' fill) now counts'
    given_counts = changed given.regions (λ t other. sym (assigned_other s now was (covers p) before free_after rule regions t other)) (λ t other. sym (held_of_other s now was (covers p) before free_after rule (end_of regions) t other))

-- some subpools are dropped
pub dropped_counts : (b a b' a' : RegionState) (fill : ℕ) (subpools : List ℕ) → IsStore b a → (counts counts' : List SubpoolCount) → AreCounts (regions_of b a fill) (get (all_held b a)) counts → ReleaseEach (store_of b a fill) subpools (store_of b' a' fill)
    → ((t : ℕ) → count_of counts' t ≡ cond (is_one_of subpools t) no_count (count_of counts t)) → AreCounts (regions_of b' a' fill) (get (all_held b' a')) counts'
dropped_counts b a b' a' fill subpools both counts counts' are dropped cleared =
    subst (λ r. AreCounts r (get (all_held b' a')) counts') (sym dropped.regions) (counts_cleared (regions_of b a fill) (get (all_held b a)) (get (all_held b' a')) (is_one_of subpools) counts counts' are dropped.held (storage_of b a fill both).pages cleared)
