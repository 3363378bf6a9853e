-- The bits and the pages of a region, and who holds its doublewords.
use Rattle.std.proofs.Common.{◌≡◌, ℕ, ◌+◌, ◌-◌, ◌*◌, ◌/◌, ◌%◌, ◌<◌, ◌≤◌, Bool, true, false, not, cond, Option, Some, None, List, length, get_or, refl, sym, ap, ◌∙◌, subst, inl, inr, arith}
use Rattle.std.proofs.lemmas.Bool.{both_ways, and_parts, and_from, not-true, cases_Bool, eqb-true, eq-eqb}
use Rattle.std.proofs.lemmas.Bool.Decides.{nat_tests}
use Rattle.std.proofs.lemmas.List.{get_or_default, get_or_past}
use Rattle.std.proofs.lemmas.Option.{none-some}
use Rattle.std.specs.FinMap.{get}
use Rattle.mvs_model.specs.Place.{PlaceValue}
use Rattle.mvs_model.specs.Storage.{MayTake}
use Rattle.mvs_model.proofs.Tables.{get-table_all}
use Rattle.page_map.specs.Owners.{owner_of, is_usable}
use Rattle.subpool_store.specs.Region.{shifted, cell, IsRegion, held_of, region_of, OpenIn}
use Rattle.subpool_store.specs.Search.{may_take, AllPass}

pub shifted_at : {X : Type 0} → (first : ℕ) (f : ℕ → Option X) (d : ℕ) → first ≤ d → shifted first f d ≡ f (d - first)
shifted_at first f d h = grind (arith, nat_tests)

pub shifted_some : {X : Type 0} → (first : ℕ) (f : ℕ → Option X) (d : ℕ) (t : X) → shifted first f d ≡ Some t → (first ≤ d) × (f (d - first) ≡ Some t)
shifted_some first f d t e = grind (arith, nat_tests)

pub shifted_none : {X : Type 0} → (first : ℕ) (f : ℕ → Option X) (d : ℕ) → (first ≤ d → f (d - first) ≡ None) → shifted first f d ≡ None
shifted_none first f d h = grind (arith, nat_tests)

pub cell_some : (bits : List Bool) (pages : List (Option ℕ)) (i t : ℕ) → cell bits pages i ≡ Some t → (get_or bits i false ≡ true) × (owner_of pages (i / 512) ≡ Some t)
cell_some bits pages i t = at_bit (get_or bits i false) (owner_of pages (i / 512)) where
  at_bit : (b : Bool) (o : Option ℕ) → cond b o None ≡ Some t → (b ≡ true) × (o ≡ Some t)
  at_bit true o e = (refl, e)
  at_bit false o e = absurd (none-some t e)

pub cell_at : (bits : List Bool) (pages : List (Option ℕ)) (i : ℕ) → get_or bits i false ≡ true → cell bits pages i ≡ owner_of pages (i / 512)
cell_at bits pages i e = ap (λ b. cond b (owner_of pages (i / 512)) None) e

pub cell_none : (bits : List Bool) (pages : List (Option ℕ)) (i : ℕ) → get_or bits i false ≡ false → cell bits pages i ≡ None
cell_none bits pages i e = ap (λ b. cond b (owner_of pages (i / 512)) None) e

pub bit_clear : (bits : List Bool) (i : ℕ) → get_or bits i true ≡ false → (i < length bits) × (get_or bits i false ≡ false)
bit_clear bits i e = grind (arith, get_or_default, get_or_past)

-- who holds a doubleword, read off the bits
pub holder_at : (first : ℕ) (bits : List Bool) (pages : List (Option ℕ)) (d : ℕ) → get (held_of first bits pages) d ≡ shifted first (cell bits pages) d
holder_at first bits pages d = get-table_all (first + length bits) (shifted first (cell bits pages)) past d where
  past : (k : ℕ) → first + length bits ≤ k → shifted first (cell bits pages) k ≡ None
  past k h = shifted_none first (cell bits pages) k (λ low. cell_none bits pages (k - first) (get_or_past bits (k - first) false (omega arith)))

-- a doubleword that is held has its bit set, and its page is the holder's
pub holder_some : (first : ℕ) (bits : List Bool) (pages : List (Option ℕ)) (d t : ℕ) → get (held_of first bits pages) d ≡ Some t →
    (first ≤ d) × (get_or bits (d - first) false ≡ true) × (owner_of pages ((d - first) / 512) ≡ Some t)
holder_some first bits pages d t e =
    let here = shifted_some first (cell bits pages) d t (sym (holder_at first bits pages d) ∙ e) in
    let parts = cell_some bits pages (d - first) t here.1 in
    (here.0, parts.0, parts.1)

pub holder_index : (first : ℕ) (bits : List Bool) (pages : List (Option ℕ)) (i : ℕ) → get (held_of first bits pages) (first + i) ≡ cell bits pages i
holder_index first bits pages i = holder_at first bits pages (first + i) ∙ shifted_at first (cell bits pages) (first + i) (omega arith) ∙ ap (cell bits pages) (let e : first + i - first ≡ i = omega arith in e)

pub usable_some : (s t : ℕ) (o : Option ℕ) → is_usable s o ≡ true → o ≡ Some t → t ≡ s
usable_some s t o u e = eqb-true t s (ap (is_usable s) (sym e) ∙ u)

usable_from : (s : ℕ) (o : Option ℕ) → ((t : ℕ) → o ≡ Some t → t ≡ s) → is_usable s o ≡ true
usable_from s None h = refl
usable_from s (Some t) h = eq-eqb t s (h t refl)

-- what the test says of a doubleword
pub may_from : (first : ℕ) (bits : List Bool) (pages : List (Option ℕ)) (bytes : ℕ → ℕ) (s i : ℕ) → IsRegion first bits pages → may_take bits pages s i ≡ true → (i < length bits) × MayTake (get (held_of first bits pages)) s (first + i)
may_from first bits pages bytes s i region may =
    let parts = and_parts _ _ may in
    let clear = bit_clear bits i (not-true _ parts.0) in (
      clear.0,
      record {
        free = holder_index first bits pages i ∙ cell_none bits pages i clear.1;
        page = λ e t same held.
            let there = holder_some first bits pages e t held in
            let on : first % 512 ≡ 0 = region.aligned in
            let low : first ≤ e = there.0 in
            let page_is : i / 512 ≡ (e - first) / 512 = omega arith in
            usable_some s t (owner_of pages (i / 512)) parts.1 (ap (owner_of pages) page_is ∙ there.2);
      },
    )

pub may_of : (first : ℕ) (bits : List Bool) (pages : List (Option ℕ)) (bytes : ℕ → ℕ) (s i : ℕ) → IsRegion first bits pages → i < length bits → MayTake (get (held_of first bits pages)) s (first + i) → may_take bits pages s i ≡ true
may_of first bits pages bytes s i region within may =
    and_from _ _
    (elim (cases_Bool (get_or bits i false)) [
      | inl set ↦ absurd (held_cannot set (owner_of pages (i / 512)) refl)
      | inr clear ↦ ap not (get_or_default bits i true false within ∙ clear)
    ])
    (usable_from s (owner_of pages (i / 512)) (λ t owned.
    let used = region.exact.used (i / 512) t owned in
    let on : first % 512 ≡ 0 = region.aligned in
    let same : used.0 / 512 ≡ i / 512 = used.1 in
    may.page (first + used.0) t (omega arith) (holder_index first bits pages used.0 ∙ cell_at bits pages used.0 used.2 ∙ ap (owner_of pages) same ∙ owned)))
  where
    held_cannot : get_or bits i false ≡ true → (o : Option ℕ) → owner_of pages (i / 512) ≡ o → ⊥
    held_cannot set None e = both_ways _ (region.exact.free i e) set
    held_cannot set (Some t) e = none-some t (sym may.free ∙ holder_index first bits pages i ∙ cell_at bits pages i set ∙ e)

-- the places whose doublewords pass are the open ones
pub open_from : (first : ℕ) (bits : List Bool) (pages : List (Option ℕ)) (bytes : ℕ → ℕ) (s : ℕ) (q : PlaceValue) → IsRegion first bits pages → 8 ≤ q.len → AllPass (may_take bits pages s) first q → OpenIn (region_of first bits pages bytes) s q
open_from first bits pages bytes s q region some all = record {
  inside =
      let begin = all (q.addr / 8) (omega arith, omega arith) in
      let last = all ((q.addr + q.len - 1) / 8) (omega arith, omega arith) in
      let low : first ≤ q.addr / 8 = begin.0 in
      let last_low : first ≤ (q.addr + q.len - 1) / 8 = last.0 in
      let high : (q.addr + q.len - 1) / 8 - first < length bits = (may_from first bits pages bytes s _ region last.1).0 in
      let sizes : length bits ≡ 512 * length pages = region.exact.sizes in
      (omega arith, omega arith);
  each = λ d covered.
      let here = all d covered in
      let low : first ≤ d = here.0 in
      let is : first + (d - first) ≡ d = omega arith in
      subst (MayTake (get (held_of first bits pages)) s) is (may_from first bits pages bytes s (d - first) region here.1).1;
}

pub open_of : (first : ℕ) (bits : List Bool) (pages : List (Option ℕ)) (bytes : ℕ → ℕ) (s : ℕ) (q : PlaceValue) → IsRegion first bits pages → OpenIn (region_of first bits pages bytes) s q → AllPass (may_take bits pages s) first q
open_of first bits pages bytes s q region is_open d covered =
    let sizes : length bits ≡ 512 * length pages = region.exact.sizes in
    let inside : (8 * first ≤ q.addr) × (q.addr + q.len ≤ 8 * first + 4096 * length pages) = is_open.inside in
    let low : first ≤ d = omega arith in
    let is : d ≡ first + (d - first) = omega arith in
    (low, may_of first bits pages bytes s (d - first) region (omega arith) (subst (MayTake (get (held_of first bits pages)) s) is (is_open.each d covered)))
