-- The parts of a pool, one after another.
use Rattle.std.proofs.Common.{◌≡◌, ℕ, zero, suc, ◌+◌, ◌/◌, ◌<◌, ◌≤◌, [], ◌∷◌, length, get_or, refl, sym, ap, ◌∙◌, arith}
use Rattle.std.specs.Int.{from_be_bytes, w32, bit_at}
use Rattle.std.specs.Prelude.{◌==◌, ◌-◌, ◌%◌}
use Rattle.std.specs.List.{Contains}
use Rattle.std.proofs.lemmas.List.FromFn.{length-map-range_with_len, get_or-map-range_with_len}
use Rattle.mvs_model.specs.Place.{place_at}
use Rattle.mvs_model.specs.Pools.{Part, part_length}
use Rattle.cell_pool.specs.Layout.{word, flag, next_at, count_at}
use Rattle.cell_pool.specs.Roots.{Root, part_addr, part_at, part_of, parts_of}
use Rattle.cell_pool.proofs.Below.{map_same}

-- a word, or a flag, of bytes that are the same
pub same_word : (m n : ℕ → ℕ) (a : ℕ) → n a ≡ m a → n (a + 1) ≡ m (a + 1) → n (a + 2) ≡ m (a + 2) → n (a + 3) ≡ m (a + 3) → word n a ≡ word m a
unfolding word
same_word m n a e f g h = λ i. from_be_bytes w32 (e i ∷ f i ∷ g i ∷ h i ∷ [])

pub same_flag : (m n : ℕ → ℕ) (a i : ℕ) → n (a + 16 + i / 8) ≡ m (a + 16 + i / 8) → flag n a i ≡ flag m a i
unfolding flag
same_flag m n a i e = ap (λ b. bit_at b (7 - i % 8) == 1) e

-- how many parts the list has, and one of them
pub parts_len : (m : ℕ → ℕ) (r : Root) → length (parts_of m r) ≡ r.count
unfolding parts_of
parts_len m r = length-map-range_with_len (part_of m r) 0 r.count

pub part_in_list : (m : ℕ → ℕ) (r : Root) (j : ℕ) (d : Part) → j < r.count → get_or (parts_of m r) j d ≡ part_of m r j
unfolding parts_of
part_in_list m r j d l = get_or-map-range_with_len (part_of m r) 0 r.count j j d l (omega arith)

pub part_contained : (m : ℕ → ℕ) (r : Root) (j : ℕ) → j < r.count → Contains (parts_of m r) (part_of m r j)
unfolding parts_of
part_contained m r j l = (j, (let e = parts_len m r in omega (arith, e)), part_in_list m r j (part_of m r j) l)

pub contained_part : (m : ℕ → ℕ) (r : Root) (x : Part) → Contains (parts_of m r) x → (j : ℕ) × (j < r.count) × (part_of m r j ≡ x)
unfolding parts_of
contained_part m r x h =
    let size = parts_len m r in
    let low : h.0 < r.count = (let l = h.1 in omega (arith, size, l)) in
    (h.0, low, sym (part_in_list m r h.0 x low) ∙ h.2)

-- where each part says the same of the next one, the parts are where they were
module _ (m n : ℕ → ℕ) (r : Root) (next : (j : ℕ) → j < r.count → next_at n (part_addr m r.first j) ≡ next_at m (part_addr m r.first j)) where
  pub same_addr : (j : ℕ) → j ≤ r.count → part_addr n r.first j ≡ part_addr m r.first j
  unfolding part_addr
  same_addr zero l = refl
  same_addr (suc j) l = ap (next_at n) (same_addr j (omega arith)) ∙ next j (omega arith)

  pub same_part : (j : ℕ) → j < r.count → count_at n (part_addr m r.first j) ≡ count_at m (part_addr m r.first j) → part_of n r j ≡ part_of m r j
  same_part j l count =
      ap (part_at n r.cell_size) (same_addr j (omega arith))
      ∙ ap (λ k. record { place = place_at (part_addr m r.first j) (part_length r.cell_size k); count = k }) count

  -- and where each has as many cells as before they are the same
  pub same_parts : ((j : ℕ) → j < r.count → count_at n (part_addr m r.first j) ≡ count_at m (part_addr m r.first j)) → parts_of n r ≡ parts_of m r
  unfolding parts_of
  same_parts count = map_same (part_of n r) (part_of m r) r.count (λ j l. same_part j l (count j l))
