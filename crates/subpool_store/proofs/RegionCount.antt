-- What a search of a region has to look at, read off its map.
use Rattle.std.proofs.Common.{◌≡◌, ◌∙◌, ℕ, ◌+◌, ◌-◌, ◌*◌, ◌/◌, ◌%◌, ◌<◌, ◌≤◌, ◌&&◌, ◌||◌, not, Bool, true, false, cond, List, Option, Some, None, is_some, length, get_or, eqb, refl, sym, ap, inl, inr, arith}
use Rattle.std.proofs.lemmas.Bool.{cases_Bool, cases_eq, eq-eqb, le-ltb, lt-ltb, ne_eqb, and_right}
use Rattle.std.specs.FinMap.{get}
use Rattle.mvs_model.specs.Finite.{count_below, has}
use Rattle.page_map.specs.Owners.{is_of, owner_of}
use Rattle.mvs_model.specs.FreeRuns.{begins_free_run, holds_in_page}
use Rattle.subpool_store.specs.Region.{RegionState, IsRegion, cell, region_of, held_of}
use Rattle.subpool_store.specs.Memory.{MemoryState}
use Rattle.subpool_store.specs.PageWalk.{begins_run, entries_to, looked_at}
use Rattle.subpool_store.proofs.Begun.{count_grows, count_once}
use Rattle.subpool_store.proofs.Entries.{none_there}
use Rattle.subpool_store.proofs.Exact.{holder_index}
use Rattle.mvs_model.proofs.Below.{count_same, count_none}

pub count_has : (n : ℕ) (f : ℕ → Bool) (x : ℕ) → x < n → f x ≡ true → 1 ≤ count_below n f
count_has n f x low hit = let one = count_once f x hit in let grows = count_grows f (x + 1) n (omega (arith, low)) in omega (arith, one, grows)

module _ (first : ℕ) (bits : List Bool) (pages : List (Option ℕ)) (region : IsRegion first bits pages) (s : ℕ) where
  abbrev at : ℕ → Option ℕ
  at = get (held_of first bits pages)

  on : first % 512 ≡ 0
  on = region.aligned

  -- the doublewords of a page, by their indices
  cell_of : (i j : ℕ) → at (512 * ((first + i) / 512) + j) ≡ cell bits pages (512 * (i / 512) + j)
  cell_of i j = let spot : 512 * ((first + i) / 512) + j ≡ first + (512 * (i / 512) + j) = omega (arith, on) in ap at spot ∙ holder_index first bits pages (512 * (i / 512) + j)

  page_owner_is : (i j : ℕ) → j < 512 → owner_of pages ((512 * (i / 512) + j) / 512) ≡ owner_of pages (i / 512)
  page_owner_is i j low = let page : (512 * (i / 512) + j) / 512 ≡ i / 512 = omega (arith, low) in ap (owner_of pages) page

  -- a page is of s where s holds something of it
  page_is : (i : ℕ) (o : Option ℕ) → owner_of pages (i / 512) ≡ o → holds_in_page at s ((first + i) / 512) ≡ is_of s o
  page_is i None e = le-ltb 0 _ (let zero = count_none 512 (λ j. has (λ t. eqb t s) (at (512 * ((first + i) / 512) + j))) (λ j low. ap (has (λ t. eqb t s)) (cell_of i j ∙ none j low)) in omega (arith, zero)) where
    none : (j : ℕ) → j < 512 → cell bits pages (512 * (i / 512) + j) ≡ None
    none j low = ap (λ o. cond (get_or bits (512 * (i / 512) + j) false) o None) (page_owner_is i j low ∙ e) ∙ same (get_or bits (512 * (i / 512) + j) false) where
      same : (b : Bool) → cond {A = Option ℕ} b None None ≡ None
      same true = refl
      same false = refl
  page_is i (Some t) e = elim (cases_Bool (eqb t s)) [
    | inl hit ↦
        let used = region.exact.used (i / 512) t e in
        let index : 512 * (i / 512) + used.0 % 512 ≡ used.0 = omega (arith, used.1) in
        let here : has (λ u. eqb u s) (at (512 * ((first + i) / 512) + used.0 % 512)) ≡ true =
        ap (has (λ u. eqb u s)) (cell_of i (used.0 % 512) ∙ ap (cell bits pages) index ∙ ap (λ b. cond b (owner_of pages (used.0 / 512)) None) used.2 ∙ ap (owner_of pages) used.1 ∙ e) ∙ hit in
        lt-ltb 0 _ (count_has 512 (λ j. has (λ u. eqb u s) (at (512 * ((first + i) / 512) + j))) (used.0 % 512) (omega arith) here) ∙ sym hit
    | inr miss ↦
        le-ltb 0 _ (let zero = count_none 512 (λ j. has (λ u. eqb u s) (at (512 * ((first + i) / 512) + j))) (λ j low. ap (has (λ u. eqb u s)) (cell_of i j ∙ ap (λ o. cond (get_or bits (512 * (i / 512) + j) false) o None) (page_owner_is i j low ∙ e)) ∙ other (get_or bits (512 * (i / 512) + j) false) miss) in omega (arith, zero))
        ∙ sym miss
  ] where
    other : (b : Bool) → eqb t s ≡ false → has (λ u. eqb u s) (cond b (Some t) None) ≡ false
    other true miss = miss
    other false miss = refl

  -- where the page is of s its bits say what is held
  bit_of_own : (i : ℕ) → owner_of pages (i / 512) ≡ Some s → is_some (at (first + i)) ≡ get_or bits i false
  bit_of_own i own = ap is_some (holder_index first bits pages i ∙ ap (λ o. cond (get_or bits i false) o None) own) ∙ by (get_or bits i false) where
    by : (b : Bool) → is_some (cond b (Some s) None) ≡ b
    by true = refl
    by false = refl

  begins_by : (i : ℕ) (o : Option ℕ) → owner_of pages (i / 512) ≡ o → begins_run bits pages s i ≡ begins_free_run at s (first + i)
  begins_by i None e =
      (λ k. not (get_or bits i false) && (is_of s (e k) && (eqb (i % 512) 0 || get_or bits (i - 1) false)))
      ∙ and_right (not (get_or bits i false)) false refl ∙ sym (and_right (not (is_some (at (first + i)))) false refl)
      ∙ sym (λ k. not (is_some (at (first + i))) && (page_is i None e k && (eqb ((first + i) % 512) 0 || is_some (at (first + i - 1)))))
  begins_by i (Some t) e = elim (cases_eq t s) [
    | inr other ↦
        (λ k. not (get_or bits i false) && (is_of s (e k) && (eqb (i % 512) 0 || get_or bits (i - 1) false)))
        ∙ (λ k. not (get_or bits i false) && (ne_eqb t s other k && (eqb (i % 512) 0 || get_or bits (i - 1) false)))
        ∙ and_right (not (get_or bits i false)) false refl ∙ sym (and_right (not (is_some (at (first + i)))) false refl)
        ∙ sym ((λ k. not (is_some (at (first + i))) && (page_is i (Some t) e k && (eqb ((first + i) % 512) 0 || is_some (at (first + i - 1)))))
        ∙ (λ k. not (is_some (at (first + i))) && (ne_eqb t s other k && (eqb ((first + i) % 512) 0 || is_some (at (first + i - 1))))))
    | inl is ↦
        let own : owner_of pages (i / 512) ≡ Some s = e ∙ ap Some is in
        (λ k. not (sym (bit_of_own i own) k) && (both own k && before own k))
  ] where
    both : owner_of pages (i / 512) ≡ Some s → is_of s (owner_of pages (i / 512)) ≡ holds_in_page at s ((first + i) / 512)
    both own = ap (is_of s) own ∙ sym (page_is i (Some s) own)

    before : owner_of pages (i / 512) ≡ Some s → (eqb (i % 512) 0 || get_or bits (i - 1) false) ≡ (eqb ((first + i) % 512) 0 || is_some (at (first + i - 1)))
    before own =
        let same : (first + i) % 512 ≡ i % 512 = omega (arith, on) in
        elim (cases_eq (i % 512) 0) [
          | inl zero ↦ ap (λ b. b || get_or bits (i - 1) false) (eq-eqb (i % 512) 0 zero) ∙ sym (ap (λ b. b || is_some (at (first + i - 1))) (eq-eqb ((first + i) % 512) 0 (same ∙ zero)))
          | inr other ↦
              let page : (i - 1) / 512 ≡ i / 512 = omega (arith, other) in
              let spot : first + i - 1 ≡ first + (i - 1) = omega (arith, other) in
              (λ k. eqb (sym same k) 0 || (sym (bit_of_own (i - 1) (ap (owner_of pages) page ∙ own)) ∙ sym (ap (λ d. is_some (at d)) spot)) k)
        ]

-- what there is to look at in a region
pub counted_region : (first : ℕ) (m : MemoryState) (pages : List (Option ℕ)) (bytes : ℕ → ℕ) (h : RegionState) → IsRegion first m.held pages → region_of first m.held pages bytes ≡ h → (s : ℕ) →
    looked_at m pages s (length m.held) ≡ h.pages + count_below (512 * h.pages) (λ i. begins_free_run (get h.held) s (h.first + i))
counted_region first m pages bytes h region is s =
    let sizes : length m.held ≡ 512 * length pages = region.exact.sizes in
    let page : length m.held / 512 ≡ length pages = omega (arith, sizes) in
    let past = none_there (length pages) (length pages) (omega arith) in
    let pages_is : entries_to pages (length m.held / 512) ≡ length pages = ap (entries_to pages) page ∙ (let all : entries_to pages (length pages) ≡ length pages = omega (arith, past) in all) in
    (λ k. pages_is k + count_below (sizes k) (begins_run m.held pages s))
    ∙ ap (λ n. length pages + n) (count_same (512 * length pages) (begins_run m.held pages s) (λ i. begins_free_run (get (held_of first m.held pages)) s (first + i)) (λ i _. begins_by first m.held pages region s i (owner_of pages (i / 512)) refl))
    ∙ ap (λ g. g.pages + count_below (512 * g.pages) (λ i. begins_free_run (get g.held) s (g.first + i))) is
