-- What the two regions together hold, and how it changes with one of them.
use Rattle.std.proofs.Common.{◌≡◌, ℕ, ◌+◌, ◌*◌, ◌/◌, ◌^◌, ◌<◌, ◌≤◌, ◌⊎◌, not, eqb, Bool, true, false, cond, ltb, Option, Some, None, List, is_some, refl, sym, ap, ◌∙◌, inl, inr, arith}
use Rattle.std.proofs.lemmas.Bool.{cases_lt, lt-ltb, le-ltb, cond-true, cond-false}
use Rattle.std.proofs.lemmas.Bool.Decides.{nat_tests}
use Rattle.std.specs.Ordering.{nat_cmp}
use Rattle.std.specs.FinMap.{FinMap, get, empty, get-empty}
use Rattle.mvs_model.specs.Finite.{Changes, kept, has}
use Rattle.mvs_model.specs.Place.{PlaceValue, place_at}
use Rattle.mvs_model.specs.Storage.{covers, has_address, InRegion, IsStorage, Storage, ReleaseAll, ReleaseEach, is_one_of, holder}
use Rattle.mvs_model.proofs.Tables.{get-table, table_changes, table_some, same_maps}
use Rattle.subpool_store.specs.Region.{RegionState, IsSound, ChangedIn, DroppedIn}
use Rattle.subpool_store.specs.Joined.{joined, joined_at, regions_of, store_of, IsStore, Taken}

-- what two joined maps have
module _ (bound split : ℕ) (m n : FinMap nat_cmp ℕ) where
  pub get_low : split ≤ bound → (k : ℕ) → k < split → get (joined bound split m n) k ≡ get m k
  get_low le k low = get-table bound (joined_at split m n) k ∙ cond-true (ltb k bound) _ _ (lt-ltb k bound (omega arith)) ∙ cond-true (ltb k split) _ _ (lt-ltb k split low)

  pub get_high : (k : ℕ) → split ≤ k → k < bound → get (joined bound split m n) k ≡ get n k
  get_high k high small = get-table bound (joined_at split m n) k ∙ cond-true (ltb k bound) _ _ (lt-ltb k bound small) ∙ cond-false (ltb k split) _ _ (le-ltb k split high)

  pub get_past : (k : ℕ) → bound ≤ k → get (joined bound split m n) k ≡ None
  get_past k past = get-table bound (joined_at split m n) k ∙ cond-false (ltb k bound) _ _ (le-ltb k bound past)

  -- a change of the lower map, or of the higher
  pub low_changes : (m' : FinMap nat_cmp ℕ) (test : ℕ → Bool) (v : Option ℕ) → split ≤ bound → ((k : ℕ) → test k ≡ true → k < split) → Changes (get m) test v (get m') →
      Changes (get (joined bound split m n)) test v (get (joined bound split m' n))
  low_changes m' test v le inside change = table_changes bound (joined_at split m n) (joined_at split m' n) test v (λ k hit. let low : k < split = inside k hit in omega arith) (λ k. at k (cases_lt k split)) where
    at : (k : ℕ) → (k < split) ⊎ (split ≤ k) → joined_at split m' n k ≡ cond (test k) v (joined_at split m n k)
    at k (inl low) = cond-true _ _ _ (lt-ltb k split low) ∙ change k ∙ ap (cond (test k) v) (sym (cond-true _ _ _ (lt-ltb k split low)))
    at k (inr high) = cond-false _ _ _ (le-ltb k split high) ∙ sym (cond-false _ _ _ (le-ltb k split high)) ∙ sym (cond-false (test k) v _ (misses k high (test k) refl)) where
      misses : (k : ℕ) → split ≤ k → (b : Bool) → test k ≡ b → test k ≡ false
      misses k high true e = absurd (let low : k < split = inside k e in omega arith)
      misses k high false e = e

  pub high_changes : (n' : FinMap nat_cmp ℕ) (test : ℕ → Bool) (v : Option ℕ) → ((k : ℕ) → test k ≡ true → (split ≤ k) × (k < bound)) → Changes (get n) test v (get n') →
      Changes (get (joined bound split m n)) test v (get (joined bound split m n'))
  high_changes n' test v inside change = table_changes bound (joined_at split m n) (joined_at split m n') test v (λ k hit. (inside k hit).1) (λ k. at k (cases_lt k split)) where
    at : (k : ℕ) → (k < split) ⊎ (split ≤ k) → joined_at split m n' k ≡ cond (test k) v (joined_at split m n k)
    at k (inr high) = cond-false _ _ _ (le-ltb k split high) ∙ change k ∙ ap (cond (test k) v) (sym (cond-false _ _ _ (le-ltb k split high)))
    at k (inl low) = cond-true _ _ _ (lt-ltb k split low) ∙ sym (cond-true _ _ _ (lt-ltb k split low)) ∙ sym (cond-false (test k) v _ (misses k low (test k) refl)) where
      misses : (k : ℕ) → k < split → (b : Bool) → test k ≡ b → test k ≡ false
      misses k low true e = absurd (let high : split ≤ k = (inside k e).0 in omega arith)
      misses k low false e = e

-- two empty maps together are empty
pub joined_empty : (bound split : ℕ) → joined bound split empty empty ≡ empty
joined_empty bound split = same_maps _ _ (λ k. get-table bound (joined_at split empty empty) k ∙ nothing k ∙ sym (get-empty nat_cmp k)) where
  cond_same : (t : Bool) → cond {A = Option ℕ} t None None ≡ None
  cond_same true = refl
  cond_same false = refl

  nothing : (k : ℕ) → cond (ltb k bound) (joined_at split empty empty k) None ≡ None
  nothing k = ap (λ o. cond (ltb k bound) o None) (ap (λ o. cond (ltb k split) o (get (empty {K = ℕ} {X = ℕ} {R = nat_cmp}) k)) (get-empty nat_cmp k) ∙ ap (λ o. cond (ltb k split) None o) (get-empty nat_cmp k) ∙ cond_same (ltb k split)) ∙ cond_same (ltb k bound)

-- who holds a doubleword, and the byte at an address
module _ (b a : RegionState) (fill : ℕ) where
  pub low_holder : (d : ℕ) → d < 2097152 → holder (store_of b a fill) d ≡ get b.held d
  low_holder d low = get_low 268435456 2097152 b.held a.held (omega arith) d low

  pub high_holder : (d : ℕ) → 2097152 ≤ d → d < 268435456 → holder (store_of b a fill) d ≡ get a.held d
  high_holder d high small = get_high 268435456 2097152 b.held a.held d high small

  pub past_holder : (d : ℕ) → 268435456 ≤ d → holder (store_of b a fill) d ≡ None
  past_holder d past = get_past 268435456 2097152 b.held a.held d past

  pub low_byte : (k : ℕ) → k < 16777216 → get (store_of b a fill).bytes k ≡ get b.bytes k
  low_byte k low = get_low 2147483648 16777216 b.bytes a.bytes (omega arith) k low

  pub high_byte : (k : ℕ) → 16777216 ≤ k → k < 2147483648 → get (store_of b a fill).bytes k ≡ get a.bytes k
  high_byte k high small = get_high 2147483648 16777216 b.bytes a.bytes k high small

  pub past_byte : (k : ℕ) → 2147483648 ≤ k → get (store_of b a fill).bytes k ≡ None
  past_byte k past = get_past 2147483648 16777216 b.bytes a.bytes k past

  -- the doubleword of a holder lies below the last address
  pub holder_small : (d t : ℕ) → holder (store_of b a fill) d ≡ Some t → d < 268435456
  holder_small d t held = (table_some 268435456 (joined_at 2097152 b.held a.held) d t held).0

  -- storage of two sound regions is storage
  pub storage_of : IsStore b a → IsStorage (store_of b a fill)
  storage_of both = record {
    pages = λ d e s t same at_d at_e. rule d e s t same at_d at_e (cases_lt d 2097152);
    inside = λ d s held. inside d s held (cases_lt d 2097152);
    bytes = λ k. bytes k (cases_lt k 16777216) (cases_lt k 2147483648);
  } where
    rule : (d e s t : ℕ) → d / 512 ≡ e / 512 → holder (store_of b a fill) d ≡ Some s → holder (store_of b a fill) e ≡ Some t → (d < 2097152) ⊎ (2097152 ≤ d) → s ≡ t
    rule d e s t same at_d at_e (inl low) =
        let low_e : e < 2097152 = omega arith in
        both.sound_below.rule d e s t same (sym (low_holder d low) ∙ at_d) (sym (low_holder e low_e) ∙ at_e)
    rule d e s t same at_d at_e (inr high) =
        let high_e : 2097152 ≤ e = omega arith in
        both.sound_above.rule d e s t same (sym (high_holder d high (holder_small d s at_d)) ∙ at_d) (sym (high_holder e high_e (holder_small e t at_e)) ∙ at_e)

    inside : (d s : ℕ) → holder (store_of b a fill) d ≡ Some s → (d < 2097152) ⊎ (2097152 ≤ d) → InRegion (regions_of b a fill) (place_at (8 * d) 8)
    inside d s held (inl low) =
        let in_region = both.sound_below.bounded d s (sym (low_holder d low) ∙ held) in
        let first : b.first ≡ 3072 = both.first_below in
        let from : b.first ≤ d = in_region.0 in
        let to : d < b.first + 512 * b.pages = in_region.1 in
        inl (omega arith, omega arith)
    inside d s held (inr high) =
        let in_region = both.sound_above.bounded d s (sym (high_holder d high (holder_small d s held)) ∙ held) in
        let first : a.first ≡ 2097152 = both.first_above in
        let from : a.first ≤ d = in_region.0 in
        let to : d < a.first + 512 * a.pages = in_region.1 in
        inr (omega arith, omega arith)

    bytes : (k : ℕ) → (k < 16777216) ⊎ (16777216 ≤ k) → (k < 2147483648) ⊎ (2147483648 ≤ k) → is_some (get (store_of b a fill).bytes k) ≡ is_some (holder (store_of b a fill) (k / 8))
    bytes k (inl low) small = ap is_some (low_byte k low) ∙ both.sound_below.bytes k ∙ sym (ap is_some (low_holder (k / 8) (omega arith)))
    bytes k (inr high) (inl small) = ap is_some (high_byte k high small) ∙ both.sound_above.bytes k ∙ sym (ap is_some (high_holder (k / 8) (omega arith) (omega arith)))
    bytes k (inr high) (inr past) = ap is_some (past_byte k past) ∙ sym (ap is_some (past_holder (k / 8) (omega arith)))

  -- a change inside the region below, or above
  pub below_changes : (b' : RegionState) (p : PlaceValue) (v w : Option ℕ) → p.addr + p.len ≤ 0x1000000 → ChangedIn b p v w b' → Taken (store_of b a fill) p v w (store_of b' a fill)
  below_changes b' p v w inside change = record {
    regions = ap (λ n. record { below = n; above = a.pages; fill = fill }) change.pages;
    held = low_changes 268435456 2097152 b.held a.held b'.held (covers p) v (omega arith) (λ k hit. covered_low k hit) change.held;
    bytes = low_changes 2147483648 16777216 b.bytes a.bytes b'.bytes (has_address p) w (omega arith) (λ k hit. address_low k hit) change.bytes;
  } where
    covered_low : (k : ℕ) → covers p k ≡ true → k < 2097152
    covered_low k hit = grind (arith, nat_tests)

    address_low : (k : ℕ) → has_address p k ≡ true → k < 16777216
    address_low k hit = grind (arith, nat_tests)

  pub above_changes : (a' : RegionState) (p : PlaceValue) (v w : Option ℕ) → 0x1000000 ≤ p.addr → p.addr + p.len ≤ 2 ^ 31 → ChangedIn a p v w a' → Taken (store_of b a fill) p v w (store_of b a' fill)
  above_changes a' p v w inside small change = record {
    regions = ap (λ n. record { below = b.pages; above = n; fill = fill }) change.pages;
    held = high_changes 268435456 2097152 b.held a.held a'.held (covers p) v (λ k hit. (covered_high k hit, covered_low k hit)) change.held;
    bytes = high_changes 2147483648 16777216 b.bytes a.bytes a'.bytes (has_address p) w (λ k hit. (address_high k hit, address_low k hit)) change.bytes;
  } where
    covered_high : (k : ℕ) → covers p k ≡ true → 2097152 ≤ k
    covered_high k hit = grind (arith, nat_tests)

    covered_low : (k : ℕ) → covers p k ≡ true → k < 268435456
    covered_low k hit = grind (arith, nat_tests)

    address_high : (k : ℕ) → has_address p k ≡ true → 16777216 ≤ k
    address_high k hit = grind (arith, nat_tests)

    address_low : (k : ℕ) → has_address p k ≡ true → k < 2147483648
    address_low k hit = grind (arith, nat_tests)

  -- all that some subpools hold goes in both
  pub both_dropped : (b' a' : RegionState) (subpools : List ℕ) → DroppedIn b (is_one_of subpools) b' → DroppedIn a (is_one_of subpools) a' → ReleaseEach (store_of b a fill) subpools (store_of b' a' fill)
  both_dropped b' a' subpools low high = record {
    regions = (λ i. record { below = low.pages i; above = high.pages i; fill = fill });
    held = λ k. held k (cases_lt k 2097152) (cases_lt k 268435456);
    bytes = λ k. bytes k (cases_lt k 16777216) (cases_lt k 2147483648);
  } where
    held : (k : ℕ) → (k < 2097152) ⊎ (2097152 ≤ k) → (k < 268435456) ⊎ (268435456 ≤ k) →
        get (joined 268435456 2097152 b'.held a'.held) k ≡ kept (λ t. not (is_one_of subpools t)) (get (joined 268435456 2097152 b.held a.held) k)
    held k (inl below) small = get_low 268435456 2097152 b'.held a'.held (omega arith) k below ∙ low.held k ∙ sym (ap (kept (λ t. not (is_one_of subpools t))) (low_holder k below))
    held k (inr above) (inl small) = get_high 268435456 2097152 b'.held a'.held k above small ∙ high.held k ∙ sym (ap (kept (λ t. not (is_one_of subpools t))) (high_holder k above small))
    held k (inr above) (inr past) = get_past 268435456 2097152 b'.held a'.held k past ∙ sym (ap (kept (λ t. not (is_one_of subpools t))) (past_holder k past))

    cond_none : (t : Bool) → cond {A = Option ℕ} t None None ≡ None
    cond_none true = refl
    cond_none false = refl

    bytes : (k : ℕ) → (k < 16777216) ⊎ (16777216 ≤ k) → (k < 2147483648) ⊎ (2147483648 ≤ k) →
        get (joined 2147483648 16777216 b'.bytes a'.bytes) k ≡ cond (has (is_one_of subpools) (holder (store_of b a fill) (k / 8))) None (get (joined 2147483648 16777216 b.bytes a.bytes) k)
    bytes k (inl below) small =
        get_low 2147483648 16777216 b'.bytes a'.bytes (omega arith) k below ∙ low.bytes k
        ∙ sym ((λ i. cond (has (is_one_of subpools) (low_holder (k / 8) (omega arith) i)) None (low_byte k below i)))
    bytes k (inr above) (inl small) =
        get_high 2147483648 16777216 b'.bytes a'.bytes k above small ∙ high.bytes k
        ∙ sym ((λ i. cond (has (is_one_of subpools) (high_holder (k / 8) (omega arith) (omega arith) i)) None (high_byte k above small i)))
    bytes k (inr above) (inr past) =
        get_past 2147483648 16777216 b'.bytes a'.bytes k past
        ∙ sym (ap (cond (has (is_one_of subpools) (holder (store_of b a fill) (k / 8))) None) (past_byte k past) ∙ cond_none (has (is_one_of subpools) (holder (store_of b a fill) (k / 8))))

-- what is kept of the two regions when one of them changes
pub new_below : (b a b' : RegionState) → IsStore b a → b'.first ≡ b.first → b'.pages ≡ b.pages → IsSound b' → IsStore b' a
new_below b a b' both first pages sound = record {
  first_below = first ∙ both.first_below;
  first_above = both.first_above;
  some_below = let some : 1 ≤ b.pages = both.some_below in omega arith;
  few_below = let few : b.pages ≤ 2048 = both.few_below in omega arith;
  few_above = both.few_above;
  sound_below = sound;
  sound_above = both.sound_above;
}

pub new_above : (b a a' : RegionState) → IsStore b a → a'.first ≡ a.first → a'.pages ≡ a.pages → IsSound a' → IsStore b a'
new_above b a a' both first pages sound = record {
  first_below = both.first_below;
  first_above = first ∙ both.first_above;
  some_below = both.some_below;
  few_below = both.few_below;
  few_above = let few : a.pages ≤ 8192 = both.few_above in omega arith;
  sound_below = both.sound_below;
  sound_above = sound;
}

-- the storage of two regions in which nothing is held
pub nothing_stored : (b a : RegionState) (m n fill : ℕ) → b ≡ record { first = 3072; pages = m; held = empty; bytes = empty } → a ≡ record { first = 2097152; pages = n; held = empty; bytes = empty } →
    store_of b a fill ≡ record { regions = record { below = m; above = n; fill = fill }; held = empty; bytes = empty }
nothing_stored b a m n fill low high =
    (λ i. store_of (low i) (high i) fill)
    ∙ (λ i. record { regions = record { below = m; above = n; fill = fill }; held = joined_empty 268435456 2097152 i; bytes = joined_empty 2147483648 16777216 i })

pub nothing_kept : (b a : RegionState) (m n : ℕ) → 1 ≤ m → m ≤ 2048 → n ≤ 8192 → b ≡ record { first = 3072; pages = m; held = empty; bytes = empty } → a ≡ record { first = 2097152; pages = n; held = empty; bytes = empty } →
    IsSound b → IsSound a → IsStore b a
nothing_kept b a m n some_m few_m few_n low high sound_b sound_a = record {
  first_below = ap (λ h. h.first) low;
  first_above = ap (λ h. h.first) high;
  some_below = let e : b.pages ≡ m = ap (λ h. h.pages) low in omega arith;
  few_below = let e : b.pages ≡ m = ap (λ h. h.pages) low in omega arith;
  few_above = let e : a.pages ≡ n = ap (λ h. h.pages) high in omega arith;
  sound_below = sound_b;
  sound_above = sound_a;
}

-- a set of one subpool
pub released_alone : (old : Storage) (s : ℕ) (new : Storage) (subpools : List ℕ) → ((t : ℕ) → is_one_of subpools t ≡ eqb t s) → ReleaseEach old subpools new → ReleaseAll old s new
released_alone old s new subpools one each = record {
  regions = each.regions;
  held = λ d. each.held d ∙ (λ i. kept (λ t. not (one t i)) (get old.held d));
  bytes = λ a. each.bytes a ∙ (λ i. cond (has (λ t. one t i) (holder old (a / 8))) None (get old.bytes a));
}
