-- A part that is laid out.
use Rattle.std.proofs.Common.{◌≡◌, ℕ, ◌+◌, ◌-◌, ◌*◌, ◌/◌, ◌%◌, ◌^◌, ◌<◌, ◌≤◌, true, false, cond, [], ◌∷◌, Some, refl, sym, ap, ◌∙◌, arith}
use Rattle.std.specs.Prelude.{◌==◌, slice_index, unwrap_or}
use Rattle.std.specs.Int.{bit_at, from_be_bytes, to_be_bytes, w32}
use Rattle.std.specs.FinMap.{get}
use Rattle.std.proofs.lemmas.Bool.Decides.{nat_tests}
use Rattle.std.proofs.lemmas.Nat.{from_be_bytes-to_be_bytes_4}
use Rattle.std.proofs.lemmas.Nat.Bits.{bit_at-zero}
use Rattle.mvs_model.specs.Place.{PlaceValue, place_at}
use Rattle.mvs_model.specs.Storage.{Storage, has_address}
use Rattle.subpool_store.specs.WrittenBytes.{Puts}
use Rattle.cell_pool.specs.Layout.{byte_of, word, flag, flag_room}
use Rattle.cell_pool.specs.Walk.{Fills}
use Rattle.cell_pool.specs.Laying.{PutsWord, LaysOut}
use Rattle.cell_pool.proofs.Chains.{same_word}
use Rattle.cell_pool.proofs.Spelled.{put_byte, past_byte}

spelled : (m : ℕ → ℕ) (a n : ℕ) → n < 2 ^ 32 → m a ≡ slice_index (to_be_bytes w32 n) 0 → m (a + 1) ≡ slice_index (to_be_bytes w32 n) 1 → m (a + 2) ≡ slice_index (to_be_bytes w32 n) 2 → m (a + 3) ≡ slice_index (to_be_bytes w32 n) 3 → word m a ≡ n
unfolding word
spelled m a n small e f g h = (λ t. from_be_bytes w32 (e t ∷ f t ∷ g t ∷ h t ∷ [])) ∙ from_be_bytes-to_be_bytes_4 n small

pub puts_word : (old new : Storage) (a n : ℕ) → n < 2 ^ 32 → Puts old (place_at a 4) (to_be_bytes w32 n) new → PutsWord old a n new
puts_word old new a n small puts = record { storage = puts.storage; regions = puts.regions; held = puts.held; number = number; others = λ x h. past_byte old new _ _ puts x h } where
  digit : (k b : ℕ) → k < 4 → a + k ≡ b → byte_of new b ≡ slice_index (to_be_bytes w32 n) k
  digit k b l e = put_byte old new _ _ puts b (omega arith) (omega arith) ∙ ap (slice_index (to_be_bytes w32 n)) (let f : b - a ≡ k = omega arith in f)

  number : word (byte_of new) a ≡ n
  number = spelled (byte_of new) a n small (digit 0 a (omega arith) (omega arith)) (digit 1 (a + 1) (omega arith) refl) (digit 2 (a + 2) (omega arith) refl) (digit 3 (a + 3) (omega arith) refl)

module _ (old new : Storage) (p : PlaceValue) (b : ℕ) (fills : Fills old p b new) where
  pub filled_byte : (x : ℕ) → p.addr ≤ x → x < p.addr + p.len → byte_of new x ≡ b
  filled_byte x low high = ap (λ o. unwrap_or o 0) (fills.bytes x ∙ ap (λ t. cond t (Some b) (get old.bytes x)) (let e : has_address p x ≡ true = grind (arith, nat_tests) in e))

  pub beside_byte : (x : ℕ) → (p.addr ≤ x → x < p.addr + p.len → ⊥) → byte_of new x ≡ byte_of old x
  beside_byte x out = ap (λ o. unwrap_or o 0) (fills.bytes x ∙ ap (λ t. cond t (Some b) (get old.bytes x)) (let e : has_address p x ≡ false = grind (arith, nat_tests) in e))

-- four words and the flags
module _ (old one two three four new : Storage) (a count size : ℕ) (w1 : PutsWord old a 0 one) (w2 : PutsWord one (a + 4) count two) (w3 : PutsWord two (a + 8) 0 three) (w4 : PutsWord three (a + 12) size four)
    (f : Fills four (place_at (a + 16) (8 * ((count + 63) / 64))) 0 new) where
  past_flags : (x : ℕ) → x < a + 16 → byte_of new x ≡ byte_of four x
  past_flags x l = beside_byte four new _ _ f x (λ low high. absurd (omega arith))

  word_past : (k : ℕ) → k ≤ 12 → word (byte_of new) (a + k) ≡ word (byte_of four) (a + k)
  word_past k l = same_word (byte_of four) (byte_of new) (a + k) (past_flags _ (omega arith)) (past_flags _ (omega arith)) (past_flags _ (omega arith)) (past_flags _ (omega arith))

  word_else : (from to : Storage) (b n c : ℕ) → PutsWord from b n to → (c + 4 ≤ b) → word (byte_of to) c ≡ word (byte_of from) c
  word_else from to b n c w l = same_word (byte_of from) (byte_of to) c (w.others _ (λ low high. absurd (omega arith))) (w.others _ (λ low high. absurd (omega arith))) (w.others _ (λ low high. absurd (omega arith))) (w.others _ (λ low high. absurd (omega arith)))

  flag_clear : (i : ℕ) → i < flag_room count → flag (byte_of new) a i ≡ false
  unfolding flag
  flag_clear i l = ap (λ b. bit_at b (7 - i % 8) == 1) (filled_byte four new _ _ f (a + 16 + i / 8) (omega arith) (omega arith)) ∙ ap (λ b. b == 1) (bit_at-zero (7 - i % 8))

  pub lays_out : LaysOut old a count size new
  lays_out = record {
    storage = f.storage;
    regions = f.regions ∙ w4.regions ∙ w3.regions ∙ w2.regions ∙ w1.regions;
    held = f.held ∙ w4.held ∙ w3.held ∙ w2.held ∙ w1.held;
    next = let e : a + 0 ≡ a = omega arith in ap (word (byte_of new)) (sym e) ∙ word_past 0 (omega arith) ∙ ap (word (byte_of four)) e ∙ word_else three four (a + 12) size a w4 (omega arith) ∙ word_else two three (a + 8) 0 a w3 (omega arith) ∙ word_else one two (a + 4) count a w2 (omega arith) ∙ w1.number;
    cells = word_past 4 (omega arith) ∙ word_else three four (a + 12) size (a + 4) w4 (omega arith) ∙ word_else two three (a + 8) 0 (a + 4) w3 (omega arith) ∙ w2.number;
    taken = word_past 8 (omega arith) ∙ word_else three four (a + 12) size (a + 8) w4 (omega arith) ∙ w3.number;
    sized = word_past 12 (omega arith) ∙ w4.number;
    flags = flag_clear;
    others = λ x h.
        beside_byte four new _ _ f x (λ low high. h (omega arith) (omega arith)) ∙ w4.others x (λ low high. h (omega arith) (omega arith)) ∙ w3.others x (λ low high. h (omega arith) (omega arith))
        ∙ w2.others x (λ low high. h (omega arith) (omega arith)) ∙ w1.others x (λ low high. h low (omega arith));
  }
