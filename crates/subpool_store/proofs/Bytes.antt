-- What a change of the cells and of the bytes of a region is, seen from outside.
use Rattle.std.proofs.Common.{◌≡◌, ℕ, ◌+◌, ◌-◌, ◌*◌, ◌/◌, ◌%◌, ◌<◌, ◌≤◌, ◌⊎◌, not, Bool, true, false, cond, Option, Some, None, is_some, List, length, refl, sym, ap, ◌∙◌, inl, inr, arith}
use Rattle.std.proofs.lemmas.Bool.{cases_Bool, cases_lt, cond-true, cond-false}
use Rattle.std.proofs.lemmas.List.{get_or_past}
use Rattle.std.specs.FinMap.{get}
use Rattle.mvs_model.specs.Finite.{Changes, Keeps, kept, has}
use Rattle.mvs_model.specs.Place.{PlaceValue}
use Rattle.mvs_model.specs.Storage.{covers, has_address}
use Rattle.mvs_model.proofs.Tables.{get-table_all}
use Rattle.subpool_store.specs.Bits.{in_range}
use Rattle.subpool_store.specs.Region.{shifted, cell, byte_at, bytes_of, held_of}
use Rattle.subpool_store.proofs.Cover.{covers_is, covers_none, has_address_is, has_address_range}
use Rattle.subpool_store.proofs.Exact.{holder_at, shifted_at, shifted_none, shifted_some, cell_none}

past_end : (first : ℕ) (bits : List Bool) (pages : List (Option ℕ)) (d : ℕ) → first + length bits ≤ d → shifted first (cell bits pages) d ≡ None
past_end first bits pages d past = shifted_none first (cell bits pages) d (λ low. cell_none bits pages (d - first) (get_or_past bits (d - first) false (omega arith)))

-- the byte at an address
pub get-bytes_of : (first : ℕ) (bits : List Bool) (pages : List (Option ℕ)) (bytes : ℕ → ℕ) (a : ℕ) → get (bytes_of first bits pages bytes) a ≡ byte_at first bits pages bytes a
get-bytes_of first bits pages bytes a = get-table_all (8 * (first + length bits)) (byte_at first bits pages bytes) past a where
  past : (k : ℕ) → 8 * (first + length bits) ≤ k → byte_at first bits pages bytes k ≡ None
  past k high = cond-false _ _ _ (ap is_some (past_end first bits pages (k / 8) (omega arith)))

-- a change of the cells from the first index on is that change of who holds the doublewords
pub cells_change : (first start end : ℕ) (p : PlaceValue) (f g : ℕ → Option ℕ) (v : Option ℕ) →
    p.addr ≡ 8 * (first + start) → p.len ≡ 8 * (end - start) → start < end →
    ((i : ℕ) → g i ≡ cond (in_range start end i) v (f i)) → (k : ℕ) → shifted first g k ≡ cond (covers p k) v (shifted first f k)
cells_change first start end p f g v addr_is len_is some change k =
    elim (cases_lt k first) [
      | inl low ↦
          shifted_none first g k (λ h. absurd (omega arith))
          ∙ sym (ap (λ b. cond b v (shifted first f k)) (covers_none first start end k p addr_is low) ∙ shifted_none first f k (λ h. absurd (omega arith)))
      | inr high ↦
          shifted_at first g k high
          ∙ change (k - first)
          ∙ sym (ap (λ b. cond b v (shifted first f k)) (covers_is first start end k p addr_is len_is some high)
          ∙ ap (cond (in_range start end (k - first)) v) (shifted_at first f k high))
    ]

-- a byte is the same where it is the same while its doubleword is held
kept_at : (first : ℕ) (bits : List Bool) (pages : List (Option ℕ)) (bytes bytes' : ℕ → ℕ) (a : ℕ) →
    ((t : ℕ) → 8 * first ≤ a → cell bits pages ((a - 8 * first) / 8) ≡ Some t → bytes' (a - 8 * first) ≡ bytes (a - 8 * first)) → byte_at first bits pages bytes' a ≡ byte_at first bits pages bytes a
kept_at first bits pages bytes bytes' a kept = by (shifted first (cell bits pages) (a / 8)) refl where
  by : (o : Option ℕ) → shifted first (cell bits pages) (a / 8) ≡ o → byte_at first bits pages bytes' a ≡ byte_at first bits pages bytes a
  by None e = cond-false _ _ _ (ap is_some e) ∙ sym (cond-false _ _ _ (ap is_some e))
  by (Some t) e =
      let here = shifted_some first (cell bits pages) (a / 8) t e in
      let from : first ≤ a / 8 = here.0 in
      let index : (a - 8 * first) / 8 ≡ a / 8 - first = omega arith in
      ap (λ x. cond (is_some (shifted first (cell bits pages) (a / 8))) (Some x) None) (kept t (omega arith) (ap (cell bits pages) index ∙ here.1))

module _ (first : ℕ) (bits bits' : List Bool) (pages pages' : List (Option ℕ)) where
  -- what the function says of the holders is what the maps say
  pub holders_change : (p : PlaceValue) (v : Option ℕ) → ((k : ℕ) → shifted first (cell bits' pages') k ≡ cond (covers p k) v (shifted first (cell bits pages) k)) →
      Changes (get (held_of first bits pages)) (covers p) v (get (held_of first bits' pages'))
  holders_change p v change k = holder_at first bits' pages' k ∙ change k ∙ sym (ap (cond (covers p k) v) (holder_at first bits pages k))

  -- the bytes of a place that is taken are the fill byte
  pub taken_bytes : (start end s fill : ℕ) (p : PlaceValue) (bytes bytes' : ℕ → ℕ) → p.addr ≡ 8 * (first + start) → p.len ≡ 8 * (end - start) → start < end →
      ((k : ℕ) → shifted first (cell bits' pages') k ≡ cond (covers p k) (Some s) (shifted first (cell bits pages) k)) →
      ((k : ℕ) → in_range (8 * start) (8 * end) k ≡ true → bytes' k ≡ fill) →
      ((k t : ℕ) → in_range (8 * start) (8 * end) k ≡ false → cell bits pages (k / 8) ≡ Some t → bytes' k ≡ bytes k) →
      Changes (get (bytes_of first bits pages bytes)) (has_address p) (Some fill) (get (bytes_of first bits' pages' bytes'))
  taken_bytes start end s fill p bytes bytes' addr_is len_is some holders inside outside a =
      get-bytes_of first bits' pages' bytes' a
      ∙ elim (cases_Bool (has_address p a)) [
        | inl hit ↦
            cond-true _ _ _ (ap is_some (holders (a / 8) ∙ cond-true _ _ _ (sym (here a) ∙ hit)))
            ∙ ap Some (inside (a - 8 * first) (sym (range_at a hit) ∙ hit))
            ∙ sym (cond-true _ _ _ hit)
        | inr out ↦
            ap (λ o. cond (is_some o) (Some (bytes' (a - 8 * first))) None) (holders (a / 8) ∙ cond-false _ _ _ (sym (here a) ∙ out))
            ∙ other a out
            ∙ sym (get-bytes_of first bits pages bytes a)
            ∙ sym (cond-false _ _ _ out)
      ] where
        here : (a : ℕ) → has_address p a ≡ covers p (a / 8)
        here a = has_address_is p a (omega arith) (omega arith)

        low : (a : ℕ) → has_address p a ≡ true → 8 * first ≤ a
        low a hit = elim (cases_lt a (8 * first)) [
          | inr high ↦ high
          | inl below ↦ absurd (let e : false ≡ true = sym (covers_none first start end (a / 8) p addr_is (omega arith)) ∙ sym (here a) ∙ hit in cc)
        ]

        range_at : (a : ℕ) → has_address p a ≡ true → has_address p a ≡ in_range (8 * start) (8 * end) (a - 8 * first)
        range_at a hit = has_address_range first start end a p addr_is len_is some (low a hit)

        other : (a : ℕ) → has_address p a ≡ false → byte_at first bits pages bytes' a ≡ byte_at first bits pages bytes a
        other a out = kept_at first bits pages bytes bytes' a (λ t high held. outside (a - 8 * first) t (sym (has_address_range first start end a p addr_is len_is some high) ∙ out) held)

  -- where doublewords are given back their bytes are gone
  pub given_bytes : (p : PlaceValue) (bytes bytes' : ℕ → ℕ) → p.addr % 8 ≡ 0 → p.len % 8 ≡ 0 → ((k t : ℕ) → cell bits' pages' (k / 8) ≡ Some t → bytes' k ≡ bytes k) →
      ((k : ℕ) → shifted first (cell bits' pages') k ≡ cond (covers p k) None (shifted first (cell bits pages) k)) →
      Changes (get (bytes_of first bits pages bytes)) (has_address p) None (get (bytes_of first bits' pages' bytes'))
  given_bytes p bytes bytes' on whole stays holders a =
      get-bytes_of first bits' pages' bytes' a
      ∙ kept_at first bits' pages' bytes bytes' a (λ t _ held. stays (a - 8 * first) t held)
      ∙ ap (λ o. cond (is_some o) (Some (bytes (a - 8 * first))) None) (holders (a / 8) ∙ ap (λ b. cond b None (shifted first (cell bits pages) (a / 8))) (sym (has_address_is p a on whole)))
      ∙ inner (has_address p a) (shifted first (cell bits pages) (a / 8))
      ∙ sym (ap (cond (has_address p a) None) (get-bytes_of first bits pages bytes a)) where
        inner : (b : Bool) (o : Option ℕ) → cond (is_some (cond b None o)) (Some (bytes (a - 8 * first))) None ≡ cond b None (cond (is_some o) (Some (bytes (a - 8 * first))) None)
        inner true o = refl
        inner false o = refl

  pub dropped_shifted : (test : ℕ → Bool) → ((i : ℕ) → cell bits' pages' i ≡ kept (λ t. not (test t)) (cell bits pages i)) →
      (k : ℕ) → (k < first) ⊎ (first ≤ k) → shifted first (cell bits' pages') k ≡ kept (λ t. not (test t)) (shifted first (cell bits pages) k)
  dropped_shifted test cells k (inl low) = shifted_none first (cell bits' pages') k (λ h. absurd (omega arith)) ∙ sym (ap (kept (λ t. not (test t))) (shifted_none first (cell bits pages) k (λ h. absurd (omega arith))))
  dropped_shifted test cells k (inr high) = shifted_at first (cell bits' pages') k high ∙ cells (k - first) ∙ sym (ap (kept (λ t. not (test t))) (shifted_at first (cell bits pages) k high))

  -- all that s holds goes, with its bytes
  pub dropped_holders : (test : ℕ → Bool) → ((i : ℕ) → cell bits' pages' i ≡ kept (λ t. not (test t)) (cell bits pages i)) →
      Keeps (get (held_of first bits pages)) (λ _ t. not (test t)) (get (held_of first bits' pages'))
  dropped_holders test cells k = holder_at first bits' pages' k ∙ dropped_shifted test cells k (cases_lt k first) ∙ sym (ap (kept (λ t. not (test t))) (holder_at first bits pages k))

  pub dropped_bytes : (test : ℕ → Bool) (bytes bytes' : ℕ → ℕ) → ((k t : ℕ) → cell bits' pages' (k / 8) ≡ Some t → bytes' k ≡ bytes k) → ((i : ℕ) → cell bits' pages' i ≡ kept (λ t. not (test t)) (cell bits pages i)) →
      Changes (get (bytes_of first bits pages bytes)) (λ a. has test (get (held_of first bits pages) (a / 8))) None (get (bytes_of first bits' pages' bytes'))
  dropped_bytes test bytes bytes' stays cells a =
      get-bytes_of first bits' pages' bytes' a
      ∙ kept_at first bits' pages' bytes bytes' a (λ t _ held. stays (a - 8 * first) t held)
      ∙ ap (λ o. cond (is_some o) (Some (bytes (a - 8 * first))) None) (dropped_shifted test cells (a / 8) (cases_lt (a / 8) first))
      ∙ inner (shifted first (cell bits pages) (a / 8))
      ∙ sym (ap (λ o. cond (has test o) None (byte_at first bits pages bytes a)) (holder_at first bits pages (a / 8)))
      ∙ sym (ap (cond (has test (get (held_of first bits pages) (a / 8))) None) (get-bytes_of first bits pages bytes a)) where
        inner : (o : Option ℕ) → cond (is_some (kept (λ t. not (test t)) o)) (Some (bytes (a - 8 * first))) None ≡ cond (has test o) None (cond (is_some o) (Some (bytes (a - 8 * first))) None)
        inner None = refl
        inner (Some t) = at (test t) where
          at : (b : Bool) → cond (is_some (cond (not b) (Some t) None)) (Some (bytes (a - 8 * first))) None ≡ cond b None (Some (bytes (a - 8 * first)))
          at true = refl
          at false = refl
