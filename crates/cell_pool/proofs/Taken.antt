-- The taken cells of a pool.
use Rattle.std.proofs.Common.{◌≡◌, ℕ, ◌+◌, ◌*◌, ◌<◌, true, ltb, sym, ap, ◌∙◌, arith}
use Rattle.std.specs.Prelude.{◌&&◌, ◌==◌}
use Rattle.std.specs.Cmp.{nat_cmp_total}
use Rattle.std.specs.FinMap.{nat_cmp-IsAntisymmetric}
use Rattle.std.specs.FinSet as set
use Rattle.std.proofs.lemmas.Bool.Decides.{nat_tests}
use Rattle.std.proofs.lemmas.Bool.{and_from, and_parts}
use Rattle.mvs_model.specs.Pools.{first_cell, IsCell}
use Rattle.cell_pool.specs.Layout.{flag, count_at}
use Rattle.cell_pool.specs.Roots.{Root, part_addr, part_at, part_of, has_taken, is_taken, passing, taken_of, pool_of}
use Rattle.cell_pool.proofs.Below.{any-passing}
use Rattle.cell_pool.proofs.Chains.{part_contained}
use Rattle.mvs_model.proofs.Below.{some_below, below_some}

-- A cell of a part of the pool begins at the address, and its flag is set.
pub record TakenAt (m : ℕ → ℕ) (r : Root) (c : ℕ) : Type 0 where
  pub part : ℕ
  pub cell : ℕ
  pub is_part : part < r.count
  pub is_cell : cell < count_at m (part_addr m r.first part)
  pub at : c ≡ first_cell r.cell_size (part_of m r part) + cell * r.cell_size
  pub set : flag m (part_addr m r.first part) cell ≡ true

equal : (a b : ℕ) → (a == b) ≡ true → b ≡ a
equal a b e = grind (arith, nat_tests)

same : (a b : ℕ) → b ≡ a → (a == b) ≡ true
same a b e = grind (arith, nat_tests)

pub found : (m : ℕ → ℕ) (r : Root) (c : ℕ) → is_taken m r c ≡ true → TakenAt m r c
unfolding is_taken has_taken
found m r c e =
    let p = below_some (λ j. has_taken m r.cell_size (part_addr m r.first j) c) r.count e in
    let i = below_some (λ i. (first_cell r.cell_size (part_at m r.cell_size (part_addr m r.first p.0)) + i * r.cell_size == c) && flag m (part_addr m r.first p.0) i) (count_at m (part_addr m r.first p.0)) p.2 in
    let b = and_parts _ _ i.2 in
    record { part = p.0; cell = i.0; is_part = p.1; is_cell = i.1; at = equal _ c b.0; set = b.1 }

pub taken_from : (m : ℕ → ℕ) (r : Root) (c : ℕ) → TakenAt m r c → is_taken m r c ≡ true
unfolding is_taken has_taken
taken_from m r c t =
    some_below (λ j. has_taken m r.cell_size (part_addr m r.first j) c) r.count t.part t.is_part
    (some_below (λ i. (first_cell r.cell_size (part_at m r.cell_size (part_addr m r.first t.part)) + i * r.cell_size == c) && flag m (part_addr m r.first t.part) i) (count_at m (part_addr m r.first t.part)) t.cell t.is_cell (and_from _ _ (same _ c t.at) t.set))

-- what the set has
pub contains-taken : (m : ℕ → ℕ) (r : Root) (c : ℕ) → set.contains (taken_of m r) c ≡ (ltb c 2147483648 && is_taken m r c)
unfolding taken_of
contains-taken m r c = set.contains-from_list nat_cmp_total (passing 2147483648 (is_taken m r)) c ∙ any-passing 2147483648 (is_taken m r) c

pub set_found : (m : ℕ → ℕ) (r : Root) (c : ℕ) → set.contains (taken_of m r) c ≡ true → TakenAt m r c
set_found m r c e = found m r c (and_parts _ _ (sym (contains-taken m r c) ∙ e)).1

pub set_from : (m : ℕ → ℕ) (r : Root) (c : ℕ) → c < 2147483648 → TakenAt m r c → set.contains (taken_of m r) c ≡ true
set_from m r c l t = contains-taken m r c ∙ and_from _ _ (let g : ltb c 2147483648 ≡ true = grind (arith, nat_tests) in g) (taken_from m r c t)

-- a taken cell is a cell
pub taken_cell : (m : ℕ → ℕ) (r : Root) (c : ℕ) → TakenAt m r c → IsCell (pool_of m r) c
taken_cell m r c t = (part_of m r t.part, part_contained m r t.part t.is_part, (t.cell, t.is_cell, t.at))

-- two pools with the same tests have the same taken cells
pub same_taken : (m n : ℕ → ℕ) (r : Root) → ((c : ℕ) → is_taken n r c ≡ is_taken m r c) → taken_of n r ≡ taken_of m r
same_taken m n r h = set.same_set nat_cmp_total nat_cmp-IsAntisymmetric _ _ (λ c. contains-taken n r c ∙ ap (λ b. ltb c 2147483648 && b) (h c) ∙ sym (contains-taken m r c))
