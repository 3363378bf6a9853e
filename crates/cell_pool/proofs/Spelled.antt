-- Words and flags that are read and written.
use Rattle.std.proofs.Common.{◌≡◌, ◌≢◌, ℕ, ◌+◌, ◌-◌, ◌*◌, ◌/◌, ◌%◌, ◌^◌, ◌<◌, ◌≤◌, inl, inr, Bool, true, false, cond, List, [], ◌∷◌, length, bit_and, bit_or, w8, Some, sym, ap, ◌∙◌, subst, arith}
use Rattle.std.specs.Prelude.{◌==◌, slice_get, slice_index, unwrap_or}
use Rattle.std.specs.Int.{bit_at, from_be_bytes, to_be_bytes, w32}
use Rattle.std.specs.FinMap.{get}
use Rattle.std.proofs.lemmas.Bool.{cases_eq, eq-eqb}
use Rattle.std.proofs.lemmas.Bool.Decides.{nat_tests}
use Rattle.std.proofs.lemmas.Nat.{from_be_bytes-to_be_bytes_4}
use Rattle.std.proofs.lemmas.Nat.Bits.{bit_at_set_same, bit_at_set_other, bit_at_clear_same, bit_at_clear_other}
use Rattle.std.proofs.lemmas.Option.{slice_get-get_or}
use Rattle.mvs_model.specs.Place.{PlaceValue, place_at}
use Rattle.mvs_model.specs.Storage.{Storage, has_address}
use Rattle.subpool_store.specs.WrittenBytes.{Puts}
use Rattle.cell_pool.specs.Layout.{byte_of, word, flag, taken_at}
use Rattle.cell_pool.specs.Marks.{IsMark, Marks}

-- the byte of a list that was lent
pub lent_byte : (st : Storage) (a k n : ℕ) (xs : List ℕ) → length xs ≡ n → k < n → slice_get xs k ≡ get st.bytes (a + k) → slice_index xs k ≡ byte_of st (a + k)
lent_byte st a k n xs size l e = sym (ap (λ o. unwrap_or o 0) (sym e ∙ slice_get-get_or xs k 0 (omega arith)))

-- four bytes of it are a word
pub lent_word : (st : Storage) (a at n b : ℕ) (xs : List ℕ) → length xs ≡ n → at + 4 ≤ n → a + at ≡ b → ((k : ℕ) → k < n → slice_get xs k ≡ get st.bytes (a + k))
    → from_be_bytes w32 (slice_index xs at ∷ slice_index xs (at + 1) ∷ slice_index xs (at + 2) ∷ slice_index xs (at + 3) ∷ []) ≡ word (byte_of st) b
unfolding word
lent_word st a at n b xs size l e each = λ i. from_be_bytes w32 (one at b (omega arith) e i ∷ one (at + 1) (b + 1) (omega arith) (omega arith) i ∷ one (at + 2) (b + 2) (omega arith) (omega arith) i ∷ one (at + 3) (b + 3) (omega arith) (omega arith) i ∷ []) where
  one : (k c : ℕ) → k < n → a + k ≡ c → slice_index xs k ≡ byte_of st c
  one k c h f = lent_byte st a k n xs size h (each k h) ∙ ap (byte_of st) f

-- where the bytes of a place were lent
pub lent_at : (st : Storage) (p : PlaceValue) (q a at n b : ℕ) (xs : List ℕ) → p ≡ place_at q n → q ≡ a → length xs ≡ p.len → at + 4 ≤ n → a + at ≡ b → ((k : ℕ) → k < p.len → slice_get xs k ≡ get st.bytes (p.addr + k))
    → from_be_bytes w32 (slice_index xs at ∷ slice_index xs (at + 1) ∷ slice_index xs (at + 2) ∷ slice_index xs (at + 3) ∷ []) ≡ word (byte_of st) b
lent_at st p q a at n b xs e f size l g each =
    let is : p ≡ place_at a n = e ∙ ap (λ t. place_at t n) f in
    lent_word st a at n b xs (size ∙ ap (λ s. s.len) is) l g (subst (λ s. (k : ℕ) → k < s.len → slice_get xs k ≡ get st.bytes (s.addr + k)) is each)

pub flag_is : (m : ℕ → ℕ) (part cell b : ℕ) (v : Bool) → b ≡ m (part + 16 + cell / 8) → v ≡ (bit_at b (7 - cell % 8) == 1) → v ≡ flag m part cell
unfolding flag
flag_is m part cell b v e f = f ∙ ap (λ x. bit_at x (7 - cell % 8) == 1) e

-- a bit that is set, or not
unequal : (k bit : ℕ) → k ≢ bit → (k == bit) ≡ false
unequal k bit h = grind (arith, nat_tests)

pub set_bit : (b bit k : ℕ) (v : Bool) → v ≡ true → bit < 8 → k < 8 → (bit_at (bit_or b (1 * 2 ^ (7 - bit) % 256)) (7 - k) == 1) ≡ cond (k == bit) v (bit_at b (7 - k) == 1)
set_bit b bit k v e l h = elim (cases_eq k bit) [
  | inl s ↦
      ap (λ t. bit_at (bit_or b (1 * 2 ^ (7 - bit) % 256)) (7 - t) == 1) s
      ∙ ap (λ t. t == 1) (bit_at_set_same w8 b (7 - bit) (omega arith)) ∙ sym e ∙ sym (ap (λ t. cond t v (bit_at b (7 - k) == 1)) (eq-eqb k bit s))
  | inr d ↦ ap (λ t. t == 1) (bit_at_set_other w8 b (7 - bit) (omega arith) (7 - k) (omega arith)) ∙ sym (ap (λ t. cond t v (bit_at b (7 - k) == 1)) (unequal k bit d))
]

pub clear_bit : (b bit k : ℕ) (v : Bool) → v ≡ false → bit < 8 → k < 8 → (bit_at (bit_and b (255 - 1 * 2 ^ (7 - bit) % 256)) (7 - k) == 1) ≡ cond (k == bit) v (bit_at b (7 - k) == 1)
clear_bit b bit k v e l h = elim (cases_eq k bit) [
  | inl s ↦
      ap (λ t. bit_at (bit_and b (255 - 1 * 2 ^ (7 - bit) % 256)) (7 - t) == 1) s
      ∙ ap (λ t. t == 1) (bit_at_clear_same w8 b (7 - bit) (omega arith)) ∙ sym e ∙ sym (ap (λ t. cond t v (bit_at b (7 - k) == 1)) (eq-eqb k bit s))
  | inr d ↦ ap (λ t. t == 1) (bit_at_clear_other w8 b (7 - bit) (omega arith) (7 - k) (omega arith) (omega arith)) ∙ sym (ap (λ t. cond t v (bit_at b (7 - k) == 1)) (unequal k bit d))
]

-- a byte of what was written, and one beside it
module _ (old new : Storage) (p : PlaceValue) (w : List ℕ) (puts : Puts old p w new) where
  pub put_byte : (x : ℕ) → p.addr ≤ x → x < p.addr + p.len → byte_of new x ≡ slice_index w (x - p.addr)
  put_byte x low high = ap (λ o. unwrap_or o 0) (puts.bytes x ∙ ap (λ b. cond b (Some (slice_index w (x - p.addr))) (get old.bytes x)) (let e : has_address p x ≡ true = grind (arith, nat_tests) in e))

  pub past_byte : (x : ℕ) → (p.addr ≤ x → x < p.addr + p.len → ⊥) → byte_of new x ≡ byte_of old x
  past_byte x out = ap (λ o. unwrap_or o 0) (puts.bytes x ∙ ap (λ b. cond b (Some (slice_index w (x - p.addr))) (get old.bytes x)) (let e : has_address p x ≡ false = grind (arith, nat_tests) in e))

-- the number of taken cells is written, and then a byte with one bit changed
module _ (old mid new : Storage) (a i taken changed : ℕ) (v : Bool) (small : taken < 2 ^ 32) (one : Puts old (place_at (a + 8) 4) (to_be_bytes w32 taken) mid) (two : Puts mid (place_at (a + 16 + i / 8) 1) (changed ∷ []) new)
    (bits : (k : ℕ) → k < 8 → (bit_at changed (7 - k) == 1) ≡ cond (k == i % 8) v (bit_at (byte_of mid (a + 16 + i / 8)) (7 - k) == 1)) where
  others : (x : ℕ) → (IsMark a i x → ⊥) → byte_of new x ≡ byte_of old x
  others x h = past_byte mid new _ _ two x (λ low high. h (inr (omega arith))) ∙ past_byte old mid _ _ one x (λ low high. h (inl ((let l : a + 8 ≤ x = low in l), omega arith)))

  digit : (k : ℕ) → k < 4 → byte_of new (a + 8 + k) ≡ slice_index (to_be_bytes w32 taken) k
  digit k l = past_byte mid new _ _ two (a + 8 + k) (λ low high. absurd (omega arith)) ∙ put_byte old mid _ _ one (a + 8 + k) (omega arith) (omega arith) ∙ ap (slice_index (to_be_bytes w32 taken)) (let e : a + 8 + k - (a + 8) ≡ k = omega arith in e)

  count : taken_at (byte_of new) a ≡ taken
  unfolding word
  count =
      (λ t. from_be_bytes w32 (first t ∷ digit 1 (omega arith) t ∷ digit 2 (omega arith) t ∷ digit 3 (omega arith) t ∷ []))
      ∙ from_be_bytes-to_be_bytes_4 taken small where
        first : byte_of new (a + 8) ≡ slice_index (to_be_bytes w32 taken) 0
        first = let e : a + 8 ≡ a + 8 + 0 = omega arith in ap (byte_of new) e ∙ digit 0 (omega arith)

  -- the byte with the flag
  changed_is : byte_of new (a + 16 + i / 8) ≡ changed
  changed_is = put_byte mid new _ _ two (a + 16 + i / 8) (omega arith) (omega arith) ∙ ap (slice_index (changed ∷ [])) (let e : a + 16 + i / 8 - (a + 16 + i / 8) ≡ 0 = omega arith in e)

  was : byte_of mid (a + 16 + i / 8) ≡ byte_of old (a + 16 + i / 8)
  was = past_byte old mid _ _ one (a + 16 + i / 8) (λ low high. absurd (omega arith))

  flags : (k : ℕ) → flag (byte_of new) a k ≡ cond (k == i) v (flag (byte_of old) a k)
  unfolding flag
  flags k = elim (cases_eq (k / 8) (i / 8)) [
    | inl s ↦
        ap (λ t. bit_at (byte_of new (a + 16 + t)) (7 - k % 8) == 1) s
        ∙ ap (λ b. bit_at b (7 - k % 8) == 1) changed_is
        ∙ bits (k % 8) (omega arith)
        ∙ ap (λ b. cond b v (bit_at (byte_of mid (a + 16 + i / 8)) (7 - k % 8) == 1)) (same_test s)
        ∙ ap (λ b. cond (k == i) v (bit_at b (7 - k % 8) == 1)) was
        ∙ ap (λ t. cond (k == i) v (bit_at (byte_of old (a + 16 + t)) (7 - k % 8) == 1)) (sym s)
    | inr d ↦
        ap (λ b. bit_at b (7 - k % 8) == 1) (others (a + 16 + k / 8) (λ m. elim m [ inl h ↦ absurd (omega (arith, h.1)) | inr h ↦ d (omega arith) ]))
        ∙ sym (ap (λ b. cond b v (bit_at (byte_of old (a + 16 + k / 8)) (7 - k % 8) == 1)) (let e : (k == i) ≡ false = unequal k i (λ e. d (ap (λ t. t / 8) e)) in e))
  ] where
    same_test : k / 8 ≡ i / 8 → (k % 8 == i % 8) ≡ (k == i)
    same_test s = elim (cases_eq k i) [
      | inl e ↦ eq-eqb (k % 8) (i % 8) (ap (λ t. t % 8) e) ∙ sym (eq-eqb k i e)
      | inr ne ↦ unequal (k % 8) (i % 8) (λ f. ne (let g : k % 8 ≡ i % 8 = f in omega arith)) ∙ sym (unequal k i ne)
    ]

  pub marked : Marks old a i v taken new
  marked = record { storage = two.storage; regions = two.regions ∙ one.regions; held = two.held ∙ one.held; flags = flags; count = count; others = others }
