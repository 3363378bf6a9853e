-- What a grant and a release do to who holds the doublewords.
use Rattle.std.proofs.Common.{◌≡◌, ℕ, ◌+◌, ◌-◌, ◌*◌, ◌/◌, ◌<◌, ◌≤◌, ◌⊎◌, ◌&&◌, not, Bool, true, false, cond, ltb, Option, Some, None, List, length, get_or, refl, sym, ap, ◌∙◌, subst, inl, inr, arith, max}
use Rattle.std.proofs.lemmas.Bool.{both_ways, cases_lt, false≢true, and_parts, cases_Bool, cond-true, cond-false, lt-ltb, le-ltb}
use Rattle.std.proofs.lemmas.List.{get_or_past}
use Rattle.std.proofs.lemmas.Option.{none-some}
use Rattle.mvs_model.specs.Finite.{kept, has}
use Rattle.page_map.specs.Owners.{owner_of, is_usable}
use Rattle.subpool_store.specs.Bits.{in_range}
use Rattle.subpool_store.specs.Edits.{IsMarked, IsAssigned, IsGivenUp, IsDropped}
use Rattle.subpool_store.specs.Region.{cell}
use Rattle.subpool_store.specs.Search.{may_take, IsExact}
use Rattle.subpool_store.proofs.Exact.{cell_at, cell_none, usable_some}
use Rattle.subpool_store.proofs.Ranges.{in_range_true, in_range_false, in_range_from, out_of_range_from}

-- a page between the first and the last page of a range of indices has one of them
pub page_index : (start end p : ℕ) → start < end → start / 512 ≤ p → p < (end - 1) / 512 + 1 → (i : ℕ) × (i / 512 ≡ p) × (start ≤ i) × (i < end)
page_index start end p some low high = (max start (512 * p), omega arith, omega arith, omega arith)

-- the pages of a range whose doublewords pass are usable
pub pages_usable : (bits : List Bool) (pages : List (Option ℕ)) (s start end : ℕ) → start < end → ((i : ℕ) → start ≤ i → i < end → may_take bits pages s i ≡ true) →
    (p : ℕ) → start / 512 ≤ p → p < (end - 1) / 512 + 1 → is_usable s (owner_of pages p) ≡ true
pages_usable bits pages s start end some pass p low high =
    let at = page_index start end p some low high in
    let parts = and_parts _ _ (pass at.0 at.2 at.3) in
    ap (λ q. is_usable s (owner_of pages q)) (sym at.1) ∙ parts.1

-- the bits of a range are set and its pages are assigned
module _ (start end s : ℕ) (bits bits' : List Bool) (pages pages' : List (Option ℕ)) (exact : IsExact bits pages) (some : start < end)
    (pass : (i : ℕ) → start ≤ i → i < end → may_take bits pages s i ≡ true)
    (marked : IsMarked bits start end true bits') (assigned : IsAssigned pages (start / 512) ((end - 1) / 512 + 1) s pages') where
  pub taken_cell : (i : ℕ) → cell bits' pages' i ≡ cond (in_range start end i) (Some s) (cell bits pages i)
  taken_cell i =
      elim (cases_Bool (in_range start end i)) [
        | inl inside ↦
            let at = in_range_true start end i inside in
            let low : start ≤ i = at.0 in
            let high : i < end = at.1 in
            cell_at bits' pages' i (marked.each i ∙ cond-true _ _ _ inside)
            ∙ assigned.each (i / 512)
            ∙ cond-true _ _ _ (in_range_from _ _ (i / 512) (omega arith) (omega arith))
            ∙ sym (cond-true _ _ _ inside)
        | inr outside ↦ other (cases_Bool (get_or bits i false)) (marked.each i ∙ cond-false _ _ _ outside) ∙ sym (cond-false _ _ _ outside)
      ] where
        owned : get_or bits i false ≡ true → (o : Option ℕ) → owner_of pages (i / 512) ≡ o → owner_of pages' (i / 512) ≡ owner_of pages (i / 512)
        owned set None e = absurd (both_ways _ (exact.free i e) set)
        owned set (Some t) e =
            elim (cases_Bool (in_range (start / 512) ((end - 1) / 512 + 1) (i / 512))) [
              | inl inside ↦
                  let at = in_range_true _ _ (i / 512) inside in
                  let is : t ≡ s = usable_some s t _ (pages_usable bits pages s start end some pass (i / 512) at.0 at.1) e in
                  assigned.each (i / 512) ∙ cond-true _ _ _ inside ∙ ap Some (sym is) ∙ sym e
              | inr outside ↦ assigned.each (i / 512) ∙ cond-false _ _ _ outside
            ]

        other : (get_or bits i false ≡ true) ⊎ (get_or bits i false ≡ false) → get_or bits' i false ≡ get_or bits i false → cell bits' pages' i ≡ cell bits pages i
        other (inl set) same = cell_at bits' pages' i (same ∙ set) ∙ owned set (owner_of pages (i / 512)) refl ∙ sym (cell_at bits pages i set)
        other (inr clear) same = cell_none bits' pages' i (same ∙ clear) ∙ sym (cell_none bits pages i clear)

  pub taken_exact : IsExact bits' pages'
  taken_exact = record {
    most = subst (λ n. n ≤ 8192) (sym assigned.sizes) exact.most;
    sizes = marked.sizes ∙ exact.sizes ∙ ap (λ n. 512 * n) (sym assigned.sizes);
    free = λ i none.
        elim (cases_Bool (in_range (start / 512) ((end - 1) / 512 + 1) (i / 512))) [
          | inl inside ↦ absurd (none-some s (sym none ∙ assigned.each (i / 512) ∙ cond-true _ _ _ inside))
          | inr outside ↦
              marked.each i
              ∙ cond-false _ _ _ (out_of_range_from start end i (λ low. let page_low : start / 512 ≤ i / 512 = omega arith in let out : (end - 1) / 512 + 1 ≤ i / 512 = in_range_false _ _ (i / 512) outside page_low in omega arith))
              ∙ exact.free i (sym (cond-false _ _ _ outside) ∙ sym (assigned.each (i / 512)) ∙ none)
        ];
    used = λ p t owned.
        elim (cases_Bool (in_range (start / 512) ((end - 1) / 512 + 1) p)) [
          | inl inside ↦
              let page = in_range_true _ _ p inside in
              let at = page_index start end p some page.0 page.1 in
              (at.0, at.1, marked.each at.0 ∙ cond-true _ _ _ (in_range_from start end at.0 at.2 at.3))
          | inr outside ↦
              let at = exact.used p t (sym (cond-false _ _ _ outside) ∙ sym (assigned.each p) ∙ owned) in
              (at.0, at.1, marked.each at.0 ∙ ap (cond (in_range start end at.0) true) at.2 ∙ cond_same (in_range start end at.0))
        ];
  } where
    cond_same : (b : Bool) → cond b true true ≡ true
    cond_same true = refl
    cond_same false = refl

-- the bits of a range are cleared and its pages that have no bit are given up
module _ (start end : ℕ) (bits bits' : List Bool) (pages pages' : List (Option ℕ)) (exact : IsExact bits pages) (some : start < end)
    (marked : IsMarked bits start end false bits') (given : IsGivenUp bits' pages (start / 512) ((end - 1) / 512 + 1) pages') where
  page_out : (i : ℕ) → in_range (start / 512) ((end - 1) / 512 + 1) (i / 512) ≡ false → get_or bits' i false ≡ get_or bits i false
  page_out i outside =
      marked.each i
      ∙ cond-false _ _ _ (out_of_range_from start end i (λ low. let page_low : start / 512 ≤ i / 512 = omega arith in let out : (end - 1) / 512 + 1 ≤ i / 512 = in_range_false _ _ (i / 512) outside page_low in omega arith))

  bit_before : (i : ℕ) → get_or bits' i false ≡ true → get_or bits i false ≡ true
  bit_before i set = was (in_range start end i) (get_or bits i false) (sym (marked.each i) ∙ set) where
    was : (b c : Bool) → cond b false c ≡ true → c ≡ true
    was true c e = absurd (false≢true e)
    was false c e = e

  pub given_cell : (i : ℕ) → cell bits' pages' i ≡ cond (in_range start end i) None (cell bits pages i)
  given_cell i =
      elim (cases_Bool (in_range start end i)) [
        | inl inside ↦ cell_none bits' pages' i (marked.each i ∙ cond-true _ _ _ inside) ∙ sym (cond-true _ _ _ inside)
        | inr outside ↦ other (cases_Bool (get_or bits i false)) (marked.each i ∙ cond-false _ _ _ outside) ∙ sym (cond-false _ _ _ outside)
      ] where
        same_owner : get_or bits' i false ≡ true → owner_of pages' (i / 512) ≡ owner_of pages (i / 512)
        same_owner set =
            elim (cases_Bool (in_range (start / 512) ((end - 1) / 512 + 1) (i / 512))) [
              | inr outside ↦ given.outside (i / 512) outside
              | inl inside ↦ elim (given.inside (i / 512) inside) [
                | inl gone ↦ absurd (both_ways _ (gone.1 i refl) set)
                | inr kept ↦ kept.0
              ]
            ]

        other : (get_or bits i false ≡ true) ⊎ (get_or bits i false ≡ false) → get_or bits' i false ≡ get_or bits i false → cell bits' pages' i ≡ cell bits pages i
        other (inl set) same = cell_at bits' pages' i (same ∙ set) ∙ same_owner (same ∙ set) ∙ sym (cell_at bits pages i set)
        other (inr clear) same = cell_none bits' pages' i (same ∙ clear) ∙ sym (cell_none bits pages i clear)

  pub given_exact : IsExact bits' pages'
  given_exact = record {
    most = subst (λ n. n ≤ 8192) (sym given.sizes) exact.most;
    sizes = marked.sizes ∙ exact.sizes ∙ ap (λ n. 512 * n) (sym given.sizes);
    free = λ i none.
        elim (cases_Bool (in_range (start / 512) ((end - 1) / 512 + 1) (i / 512))) [
          | inr outside ↦ page_out i outside ∙ exact.free i (sym (given.outside (i / 512) outside) ∙ none)
          | inl inside ↦ elim (given.inside (i / 512) inside) [
            | inl gone ↦ gone.1 i refl
            | inr kept ↦ absurd (both_ways _ (exact.free kept.1.0 (ap (owner_of pages) (kept.1.1) ∙ sym kept.0 ∙ none)) (bit_before kept.1.0 kept.1.2))
          ]
        ];
    used = λ p t owned.
        elim (cases_Bool (in_range (start / 512) ((end - 1) / 512 + 1) p)) [
          | inr outside ↦
              let at = exact.used p t (sym (given.outside p outside) ∙ owned) in
              (at.0, at.1, page_out at.0 (ap (in_range (start / 512) ((end - 1) / 512 + 1)) at.1 ∙ outside) ∙ at.2)
          | inl inside ↦ elim (given.inside p inside) [
            | inl gone ↦ absurd (none-some t (sym gone.0 ∙ owned))
            | inr kept ↦ kept.1
          ]
        ];
  }

-- a doubleword and its page after all of s went
dropped_at : (b : Bool) (o : Option ℕ) (test : ℕ → Bool) → cond (cond (has test o) false b) (cond (has test o) None o) None ≡ kept (λ t. not (test t)) (cond b o None)
dropped_at true None test = refl
dropped_at false None test = refl
dropped_at true (Some t) test = at (test t) where
  at : (c : Bool) → cond (cond c false true) (cond {A = Option ℕ} c None (Some t)) None ≡ cond (not c) (Some t) None
  at true = refl
  at false = refl
dropped_at false (Some t) test = at (test t) where
  at : (c : Bool) → cond {A = Option ℕ} (cond c false false) (cond {A = Option ℕ} c None (Some t)) None ≡ None
  at true = refl
  at false = refl

-- all that the subpools of a test have is given up
module _ (test : ℕ → Bool) (bits bits' : List Bool) (pages pages' : List (Option ℕ)) (exact : IsExact bits pages) (dropped : IsDropped test bits pages (length pages) bits' pages') where
  all_pages : (p : ℕ) → (ltb p (length pages) && has test (owner_of pages p)) ≡ has test (owner_of pages p)
  all_pages p = elim (cases_lt p (length pages)) [
    | inl low ↦ ap (λ b. b && has test (owner_of pages p)) (lt-ltb p (length pages) low)
    | inr past ↦ ap (λ b. b && has test (owner_of pages p)) (le-ltb p (length pages) past) ∙ sym (ap (has test) (get_or_past pages p None past))
  ]

  owner_is : (p : ℕ) → owner_of pages' p ≡ cond (has test (owner_of pages p)) None (owner_of pages p)
  owner_is p = dropped.owners p ∙ ap (λ b. cond b None (owner_of pages p)) (all_pages p)

  bit_is : (i : ℕ) → get_or bits' i false ≡ cond (has test (owner_of pages (i / 512))) false (get_or bits i false)
  bit_is i = dropped.each i ∙ ap (λ b. cond b false (get_or bits i false)) (all_pages (i / 512))

  pub dropped_cell : (i : ℕ) → cell bits' pages' i ≡ kept (λ t. not (test t)) (cell bits pages i)
  dropped_cell i = (λ j. cond (bit_is i j) (owner_is (i / 512) j) None) ∙ dropped_at (get_or bits i false) (owner_of pages (i / 512)) test

  pub dropped_exact : IsExact bits' pages'
  dropped_exact = record {
    sizes = dropped.bits_size ∙ exact.sizes ∙ ap (λ n. 512 * n) (sym dropped.pages_size);
    most = subst (λ n. n ≤ 8192) (sym dropped.pages_size) exact.most;
    free = λ i none. elim (cases_Bool (has test (owner_of pages (i / 512)))) [
      | inl gone ↦ bit_is i ∙ cond-true _ _ _ gone
      | inr stays ↦ bit_is i ∙ cond-false _ _ _ stays ∙ exact.free i (sym (cond-false _ _ _ stays) ∙ sym (owner_is (i / 512)) ∙ none)
    ];
    used = λ p t owned. elim (cases_Bool (has test (owner_of pages p))) [
      | inl gone ↦ absurd (none-some t (sym (cond-true _ _ _ gone) ∙ sym (owner_is p) ∙ owned))
      | inr stays ↦
          let at = exact.used p t (sym (cond-false _ _ _ stays) ∙ sym (owner_is p) ∙ owned) in
          (at.0, at.1, bit_is at.0 ∙ cond-false _ _ _ (ap (λ q. has test (owner_of pages q)) at.1 ∙ stays) ∙ at.2)
    ];
  }
