-- What a region is after a write through some of its bytes.
use Rattle.std.proofs.Common.{◌≡◌, ℕ, ◌+◌, ◌-◌, ◌*◌, ◌/◌, ◌<◌, ◌≤◌, ◌⊎◌, ◌&&◌, Bool, true, false, cond, Option, Some, None, is_some, List, length, get_or, min, refl, subst, sym, ap, ◌∙◌, inl, inr, arith}
use Rattle.std.proofs.lemmas.Bool.{cases_Bool, cases_lt, cond-true, cond-false, lt-ltb, le-ltb, true≢false}
use Rattle.std.proofs.lemmas.Bool.Decides.{nat_tests}
use Rattle.std.proofs.lemmas.List.{get_or_past, take_all}
use Rattle.std.specs.Ordering.{nat_cmp}
use Rattle.std.specs.FinMap.{FinMap, get}
use Rattle.mvs_model.specs.Place.{PlaceValue}
use Rattle.mvs_model.specs.Storage.{AllHeld, IsStorage, Storage, has_address}
use Rattle.mvs_model.proofs.Tables.{get-table_all, same_maps}
use Rattle.subpool_store.specs.Bits.{in_range}
use Rattle.subpool_store.specs.Region.{RegionState, IsRegion, IsSound, byte_at, bytes_of, cell, region_of, shifted}
use Rattle.subpool_store.specs.Joined.{IsStore, regions_of, store_of}
use Rattle.subpool_store.specs.WrittenBytes.{region_written, over, overwritten, Puts, side_end, written, written_from}
use Rattle.subpool_store.proofs.Both.{high_byte, low_byte, new_above, new_below, past_byte, storage_of}
use Rattle.subpool_store.proofs.Bytes.{get-bytes_of}
use Rattle.subpool_store.proofs.Exact.{holder_at, holder_some, shifted_at, shifted_none, cell_none}
use Rattle.subpool_store.proofs.Ranges.{in_range_true, in_range_false, in_range_from, out_of_range_from}

-- what stays nothing where there was nothing
pub over_none : (m : ℕ → Option ℕ) (from to : ℕ) (w : List ℕ) (k : ℕ) → m k ≡ None → over m from to w k ≡ None
over_none m from to w k e = ap (λ o. cond (in_range from to k && is_some o) (Some (get_or w (k - from) 0)) o) e ∙ at_none (in_range from to k) where
  at_none : (b : Bool) → cond (b && false) (Some (get_or w (k - from) 0)) None ≡ None
  at_none true = refl
  at_none false = refl

pub over_some : (m : ℕ → Option ℕ) (from to : ℕ) (w : List ℕ) (k x : ℕ) → m k ≡ Some x → over m from to w k ≡ Some (cond (in_range from to k) (get_or w (k - from) 0) x)
over_some m from to w k x e = ap (λ o. cond (in_range from to k && is_some o) (Some (get_or w (k - from) 0)) o) e ∙ at_some (in_range from to k) where
  at_some : (b : Bool) → cond (b && true) (Some (get_or w (k - from) 0)) (Some x) ≡ Some (cond b (get_or w (k - from) 0) x)
  at_some true = refl
  at_some false = refl

pub get-overwritten : (m : FinMap nat_cmp ℕ) (from to : ℕ) (w : List ℕ) → ((k : ℕ) → 2147483648 ≤ k → get m k ≡ None) → (k : ℕ) → get (overwritten m from to w) k ≡ over (get m) from to w k
get-overwritten m from to w none k = get-table_all 2147483648 (over (get m) from to w) (λ j past. over_none (get m) from to w j (none j past)) k

module _ (first : ℕ) (bits : List Bool) (pages : List (Option ℕ)) (bytes bytes' : ℕ → ℕ) (region : IsRegion first bits pages) where
  none_past : (k : ℕ) → 2147483648 ≤ k → get (bytes_of first bits pages bytes) k ≡ None
  none_past k past =
      let end : 8 * (first + length bits) ≤ 2147483648 = region.end in
      get-bytes_of first bits pages bytes k
      ∙ cond-false _ _ _ (ap is_some (shifted_none first (cell bits pages) (k / 8) (λ from. cell_none bits pages (k / 8 - first) (get_or_past bits (k / 8 - first) false (omega arith)))))

  module _ (a at : ℕ) (low : 8 * first ≤ a) (at_is : at ≡ a - 8 * first) (w : List ℕ)
      (each : (k t : ℕ) → cell bits pages (k / 8) ≡ Some t → bytes' k ≡ cond (in_range at (at + length w) k) (get_or w (k - at) 0) (bytes k)) where
    at_byte : (k : ℕ) (o : Option ℕ) → shifted first (cell bits pages) (k / 8) ≡ o → byte_at first bits pages bytes' k ≡ over (get (bytes_of first bits pages bytes)) a (a + length w) w k
    at_byte k None free =
        cond-false _ _ _ (ap is_some free)
        ∙ sym (over_none (get (bytes_of first bits pages bytes)) a (a + length w) w k (get-bytes_of first bits pages bytes k ∙ cond-false _ _ _ (ap is_some free)))
    at_byte k (Some t) held =
        let there = holder_some first bits pages (k / 8) t (holder_at first bits pages (k / 8) ∙ held) in
        let from : first ≤ k / 8 = there.0 in
        let index : (k - 8 * first) / 8 ≡ k / 8 - first = omega arith in
        let here : cell bits pages ((k - 8 * first) / 8) ≡ Some t = ap (cell bits pages) index ∙ sym (shifted_at first (cell bits pages) (k / 8) from) ∙ held in
        cond-true _ _ _ (ap is_some held)
        ∙ ap Some (each (k - 8 * first) t here ∙ moved k (omega arith))
        ∙ sym (over_some (get (bytes_of first bits pages bytes)) a (a + length w) w k (bytes (k - 8 * first)) (get-bytes_of first bits pages bytes k ∙ cond-true _ _ _ (ap is_some held))) where
          same_range : (n k : ℕ) → 8 * first ≤ k → in_range at (at + n) (k - 8 * first) ≡ in_range a (a + n) k
          same_range n k from = grind (arith, nat_tests)

          moved : (k : ℕ) → 8 * first ≤ k → cond (in_range at (at + length w) (k - 8 * first)) (get_or w (k - 8 * first - at) 0) (bytes (k - 8 * first)) ≡ cond (in_range a (a + length w) k) (get_or w (k - a) 0) (bytes (k - 8 * first))
          moved k from =
              let index : k - 8 * first - at ≡ k - a = omega arith in
              ap (λ b. cond b (get_or w (k - 8 * first - at) 0) (bytes (k - 8 * first))) (same_range (length w) k from) ∙ ap (λ i. cond (in_range a (a + length w) k) (get_or w i 0) (bytes (k - 8 * first))) index

    -- the region with bytes in place of others is the region with its bytes written over
    pub lends_region : (h : RegionState) → region_of first bits pages bytes ≡ h → region_of first bits pages bytes' ≡ region_written h a w
    lends_region h is =
        (λ i. record { first = first; pages = length pages; held = (region_of first bits pages bytes).held; bytes = same i })
        ∙ ap (λ g. region_written g a w) is where
          same : bytes_of first bits pages bytes' ≡ overwritten (bytes_of first bits pages bytes) a (a + length w) w
          same = same_maps _ _ (λ k. get-bytes_of first bits pages bytes' k ∙ at_byte k (shifted first (cell bits pages) (k / 8)) refl ∙ sym (get-overwritten (bytes_of first bits pages bytes) a (a + length w) w none_past k))

-- a sound region stays sound
sound_past : (h : RegionState) → IsSound h → h.first + 512 * h.pages ≤ 268435456 → (k : ℕ) → 2147483648 ≤ k → get h.bytes k ≡ None
sound_past h sound small k past = by (get h.bytes k) (get h.held (k / 8)) refl refl where
  by : (o u : Option ℕ) → get h.bytes k ≡ o → get h.held (k / 8) ≡ u → get h.bytes k ≡ None
  by None u e f = e
  by (Some x) None e f = absurd (true≢false (sym (ap is_some e) ∙ sound.bytes k ∙ ap is_some f))
  by (Some x) (Some t) e f = absurd (let high : k / 8 < h.first + 512 * h.pages = (sound.bounded (k / 8) t f).1 in omega arith)

pub sound_written : (h : RegionState) → IsSound h → h.first + 512 * h.pages ≤ 268435456 → (a : ℕ) (w : List ℕ) → IsSound (region_written h a w)
sound_written h sound small a w = record {
  bounded = sound.bounded;
  rule = sound.rule;
  bytes = λ k. ap is_some (get-overwritten h.bytes a (a + length w) w (sound_past h sound small) k) ∙ same (in_range a (a + length w) k) (get h.bytes k) (get_or w (k - a) 0) ∙ sound.bytes k;
} where
  same : (b : Bool) (o : Option ℕ) (x : ℕ) → is_some (cond (b && is_some o) (Some x) o) ≡ is_some o
  same true None x = refl
  same true (Some y) x = refl
  same false o x = refl

-- the key decides what is there
over_same : (m n : ℕ → Option ℕ) (from to end : ℕ) (w : List ℕ) (k : ℕ) → in_range from to k ≡ in_range from end k → m k ≡ n k → over m from to w k ≡ over n from end w k
over_same m n from to end w k range same = (λ i. cond (range i && is_some (same i)) (Some (get_or w (k - from) 0)) (same i))

over_out : (m : ℕ → Option ℕ) (from to : ℕ) (w : List ℕ) (k : ℕ) → in_range from to k ≡ false → over m from to w k ≡ m k
over_out m from to w k out = ap (λ b. cond (b && is_some (m k)) (Some (get_or w (k - from) 0)) (m k)) out

cut_range : (a x y k : ℕ) → k < y → in_range a x k ≡ in_range a (min x y) k
cut_range a x y k low = elim (cases_Bool (in_range a x k)) [
  | inl hit ↦ let p = in_range_true a x k hit in hit ∙ sym (in_range_from a (min x y) k p.0 (omega (arith, p.1)))
  | inr out ↦ out ∙ sym (out_of_range_from a (min x y) k (λ from. let past : x ≤ k = in_range_false a x k out from in omega arith))
]

module _ (b a : RegionState) (fill : ℕ) (st : Storage) (both : IsStore b a) (is : store_of b a fill ≡ st) (at : ℕ) (w : List ℕ) where
  small_b : b.first + 512 * b.pages ≤ 268435456
  small_b = let first : b.first ≡ 3072 = both.first_below in let few : b.pages ≤ 2048 = both.few_below in omega arith

  small_a : a.first + 512 * a.pages ≤ 268435456
  small_a = let first : a.first ≡ 2097152 = both.first_above in let few : a.pages ≤ 8192 = both.few_above in omega arith

  none_past_joined : (k : ℕ) → 2147483648 ≤ k → get (store_of b a fill).bytes k ≡ None
  none_past_joined k past = past_byte b a fill k past

  pub kept_below : IsStore (region_written b at w) a
  kept_below = new_below b a (region_written b at w) both refl refl (sound_written b both.sound_below small_b at w)

  pub kept_above : IsStore b (region_written a at w)
  kept_above = new_above b a (region_written a at w) both refl refl (sound_written a both.sound_above small_a at w)

  pub lends_below : at < 16777216 → store_of (region_written b at w) a fill ≡ written_from st at w
  lends_below low =
      (λ i. record { regions = regions_of b a fill; held = (store_of b a fill).held; bytes = same_maps _ _ pointwise i })
      ∙ (λ i. record { regions = (is i).regions; held = (is i).held; bytes = overwritten (is i).bytes at (min (at + length w) (side i)) w }) where
        side : 16777216 ≡ side_end at
        side = sym (cond-true _ _ _ (lt-ltb at 16777216 low))

        new : (k : ℕ) → get (overwritten (store_of b a fill).bytes at (min (at + length w) 16777216) w) k ≡ over (get (store_of b a fill).bytes) at (min (at + length w) 16777216) w k
        new k = get-overwritten (store_of b a fill).bytes at (min (at + length w) 16777216) w none_past_joined k

        by : (k : ℕ) → (k < 16777216) ⊎ (16777216 ≤ k) → (k < 2147483648) ⊎ (2147483648 ≤ k) → get (store_of (region_written b at w) a fill).bytes k ≡ over (get (store_of b a fill).bytes) at (min (at + length w) 16777216) w k
        by k (inl below) small =
            low_byte (region_written b at w) a fill k below
            ∙ get-overwritten b.bytes at (at + length w) w (sound_past b both.sound_below small_b) k
            ∙ over_same (get b.bytes) (get (store_of b a fill).bytes) at (at + length w) (min (at + length w) 16777216) w k (cut_range at (at + length w) 16777216 k below) (sym (low_byte b a fill k below))
        by k (inr above) (inl small) =
            high_byte (region_written b at w) a fill k above small
            ∙ sym (high_byte b a fill k above small)
            ∙ sym (over_out (get (store_of b a fill).bytes) at (min (at + length w) 16777216) w k (out_of_range_from at (min (at + length w) 16777216) k (λ _. omega arith)))
        by k (inr above) (inr past) =
            past_byte (region_written b at w) a fill k past
            ∙ sym (over_none (get (store_of b a fill).bytes) at (min (at + length w) 16777216) w k (past_byte b a fill k past))

        pointwise : (k : ℕ) → get (store_of (region_written b at w) a fill).bytes k ≡ get (overwritten (store_of b a fill).bytes at (min (at + length w) 16777216) w) k
        pointwise k = by k (cases_lt k 16777216) (cases_lt k 2147483648) ∙ sym (new k)

  pub lends_above : 16777216 ≤ at → store_of b (region_written a at w) fill ≡ written_from st at w
  lends_above high =
      (λ i. record { regions = regions_of b a fill; held = (store_of b a fill).held; bytes = same_maps _ _ pointwise i })
      ∙ (λ i. record { regions = (is i).regions; held = (is i).held; bytes = overwritten (is i).bytes at (min (at + length w) (side i)) w }) where
        side : 2147483648 ≡ side_end at
        side = sym (cond-false _ _ _ (le-ltb at 16777216 high))

        new : (k : ℕ) → get (overwritten (store_of b a fill).bytes at (min (at + length w) 2147483648) w) k ≡ over (get (store_of b a fill).bytes) at (min (at + length w) 2147483648) w k
        new k = get-overwritten (store_of b a fill).bytes at (min (at + length w) 2147483648) w none_past_joined k

        by : (k : ℕ) → (k < 16777216) ⊎ (16777216 ≤ k) → (k < 2147483648) ⊎ (2147483648 ≤ k) → get (store_of b (region_written a at w) fill).bytes k ≡ over (get (store_of b a fill).bytes) at (min (at + length w) 2147483648) w k
        by k (inl below) small =
            low_byte b (region_written a at w) fill k below
            ∙ sym (low_byte b a fill k below)
            ∙ sym (over_out (get (store_of b a fill).bytes) at (min (at + length w) 2147483648) w k (out_of_range_from at (min (at + length w) 2147483648) k (λ from. absurd (omega arith))))
        by k (inr above) (inl small) =
            high_byte b (region_written a at w) fill k above small
            ∙ get-overwritten a.bytes at (at + length w) w (sound_past a both.sound_above small_a) k
            ∙ over_same (get a.bytes) (get (store_of b a fill).bytes) at (at + length w) (min (at + length w) 2147483648) w k (cut_range at (at + length w) 2147483648 k small) (sym (high_byte b a fill k above small))
        by k (inr above) (inr past) =
            past_byte b (region_written a at w) fill k past
            ∙ sym (over_none (get (store_of b a fill).bytes) at (min (at + length w) 2147483648) w k (past_byte b a fill k past))

        pointwise : (k : ℕ) → get (store_of b (region_written a at w) fill).bytes k ≡ get (overwritten (store_of b a fill).bytes at (min (at + length w) 2147483648) w) k
        pointwise k = by k (cases_lt k 16777216) (cases_lt k 2147483648) ∙ sym (new k)

-- bytes written over those of a place that is held, as many as it has, stand there
pub puts : (st : Storage) (p : PlaceValue) (w : List ℕ) → IsStorage st → AllHeld st p → ((k : ℕ) → 2147483648 ≤ k → get st.bytes k ≡ None) → p.addr + p.len ≤ side_end p.addr → length w ≡ p.len →
    IsStorage (written_from st p.addr w) → Puts st p w (written_from st p.addr w)
puts st p w storage held none one_side size new = record { regions = refl; held = refl; bytes = at; storage = new } where
  side : p.addr + length w ≤ side_end p.addr
  side = omega arith

  inside : (k : ℕ) → has_address p k ≡ true → (p.addr ≤ k) × (k < p.addr + p.len)
  inside k hit = grind (arith, nat_tests)

  outside : (k : ℕ) → has_address p k ≡ false → p.addr ≤ k → p.addr + p.len ≤ k
  outside k out from = grind (arith, nat_tests)

  some : (k : ℕ) → has_address p k ≡ true → is_some (get st.bytes k) ≡ true
  some k hit = let h = inside k hit in let from : p.addr ≤ k = h.0 in let to : k < p.addr + p.len = h.1 in storage.bytes k ∙ held (k / 8) (omega arith, omega arith)

  range : (k : ℕ) (b : Bool) → has_address p k ≡ b → in_range p.addr (min (p.addr + length w) (side_end p.addr)) k ≡ b
  range k true hit = let h = inside k hit in in_range_from p.addr (min (p.addr + length w) (side_end p.addr)) k h.0 (omega (arith, h.1))
  range k false out = out_of_range_from p.addr (min (p.addr + length w) (side_end p.addr)) k (λ from. let past : p.addr + p.len ≤ k = outside k out from in omega arith)

  by : (k : ℕ) (b : Bool) → has_address p k ≡ b → over (get st.bytes) p.addr (min (p.addr + length w) (side_end p.addr)) w k ≡ cond b (Some (get_or w (k - p.addr) 0)) (get st.bytes k)
  by k true hit = (λ i. cond (range k true hit i && some k hit i) (Some (get_or w (k - p.addr) 0)) (get st.bytes k))
  by k false out = over_out (get st.bytes) p.addr (min (p.addr + length w) (side_end p.addr)) w k (range k false out)

  at : (k : ℕ) → get (written_from st p.addr w).bytes k ≡ cond (has_address p k) (Some (get_or w (k - p.addr) 0)) (get st.bytes k)
  at k = get-overwritten st.bytes p.addr (min (p.addr + length w) (side_end p.addr)) w none k ∙ by k (has_address p k) refl

module _ (b a : RegionState) (fill : ℕ) (st : Storage) (both : IsStore b a) (is : store_of b a fill ≡ st) (p : PlaceValue) (held : AllHeld st p) (w : List ℕ) (size : length w ≡ p.len) where
  storage : IsStorage st
  storage = subst IsStorage is (storage_of b a fill both)

  none_past_st : (k : ℕ) → 2147483648 ≤ k → get st.bytes k ≡ None
  none_past_st k past = sym (ap (λ t. get t.bytes k) is) ∙ past_byte b a fill k past

  pub puts_below : 1 ≤ p.len → p.addr + p.len ≤ 16777216 → Puts st p w (written st p w)
  puts_below some low =
      subst (Puts st p w) (ap (written_from st p.addr) (sym (take_all p.len w (omega (arith, size)))))
      (puts st p w storage held none_past_st (subst (λ e. p.addr + p.len ≤ e) (sym (cond-true _ _ _ (lt-ltb p.addr 16777216 (omega arith)))) low) size
      (subst IsStorage (lends_below b a fill st both is p.addr w (omega arith)) (storage_of (region_written b p.addr w) a fill (kept_below b a fill st both is p.addr w))))

  pub puts_above : 1 ≤ p.len → 16777216 ≤ p.addr → Puts st p w (written st p w)
  puts_above some high =
      subst (Puts st p w) (ap (written_from st p.addr) (sym (take_all p.len w (omega (arith, size)))))
      (puts st p w storage held none_past_st (subst (λ e. p.addr + p.len ≤ e) (sym (cond-false _ _ _ (le-ltb p.addr 16777216 high))) ends) size
      (subst IsStorage (lends_above b a fill st both is p.addr w high) (storage_of b (region_written a p.addr w) fill (kept_above b a fill st both is p.addr w)))) where
        ends : p.addr + p.len ≤ 2147483648
        ends = by (get st.bytes (p.addr + p.len - 1)) refl (storage.bytes (p.addr + p.len - 1) ∙ held ((p.addr + p.len - 1) / 8) (omega arith, omega arith)) where
          by : (o : Option ℕ) → get st.bytes (p.addr + p.len - 1) ≡ o → is_some (get st.bytes (p.addr + p.len - 1)) ≡ true → p.addr + p.len ≤ 2147483648
          by o e hit = elim (cases_lt (p.addr + p.len - 1) 2147483648) [
            | inl low ↦ omega arith
            | inr past ↦ absurd (true≢false (sym hit ∙ ap is_some (none_past_st (p.addr + p.len - 1) past)))
          ]
