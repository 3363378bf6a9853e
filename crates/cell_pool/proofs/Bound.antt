-- A pool has not more parts than there are doublewords.
use Rattle.std.proofs.Common.{◌≡◌, ℕ, ◌/◌, ◌<◌, ◌≤◌, true, false, eqb, List, map, length, get_or, Some, sym, ◌∙◌, subst, arith}
use Rattle.std.specs.List.{range_with_len, list_any}
use Rattle.std.proofs.lemmas.Bool.Decides.{nat_tests}
use Rattle.std.proofs.lemmas.List.FromFn.{length-map-range_with_len, get_or-map-range_with_len}
use Rattle.std.proofs.lemmas.Map.Keys.{IsDistinct-from_apart}
use Rattle.std.proofs.lemmas.Map.Steps.{length-le_from_distinct_below}
use Rattle.std.specs.FinMap.{FinMap, get}
use Rattle.std.proofs.lemmas.Bool.{eqb-true}
use Rattle.mvs_model.specs.declared.name.Name.{Name}
use Rattle.mvs_model.specs.Name.{name_cmp}
use Rattle.mvs_model.specs.Storage.{Storage, Covers}
use Rattle.mvs_model.proofs.Elements.{any_found}
use Rattle.cell_pool.specs.Layout.{byte_of}
use Rattle.cell_pool.specs.Roots.{Root, part_addr, part_of}
use Rattle.cell_pool.specs.Agree.{IsCounted, AgreeParts}
use Rattle.cell_pool.proofs.Counted.{free_most}
use Rattle.cell_pool.proofs.Only.{misses}
use Rattle.cell_pool.proofs.Walking.{chain_of}

module _ (roots : FinMap name_cmp Root) (st : Storage) (agree : AgreeParts roots st) (name : Name) (r : Root) (is : get roots name ≡ Some r) where
  firsts : List ℕ
  firsts = map (λ j. part_addr (byte_of st) r.first j / 8) (range_with_len 0 r.count)

  differ : (i j d : ℕ) → i < j → j < length firsts → eqb (get_or firsts i d) (get_or firsts j d) ≡ false
  unfolding firsts
  differ i j d l h =
      let size : length (map (λ k. part_addr (byte_of st) r.first k / 8) (range_with_len 0 r.count)) ≡ r.count = length-map-range_with_len (λ k. part_addr (byte_of st) r.first k / 8) 0 r.count in
      (λ k. eqb (get_or-map-range_with_len (λ k. part_addr (byte_of st) r.first k / 8) 0 r.count i i d (omega (arith, size)) (omega arith) k) (get_or-map-range_with_len (λ k. part_addr (byte_of st) r.first k / 8) 0 r.count j j d (omega (arith, size)) (omega arith) k))
      ∙ apart (part_addr (byte_of st) r.first i) (part_addr (byte_of st) r.first j) (λ e. misses roots st agree name r is i j l (omega (arith, size)) (part_addr (byte_of st) r.first i / 8) (omega arith, omega arith) (subst (λ b. Covers (part_of (byte_of st) r j).place b) (sym e) (omega arith, omega arith))) where
        apart : (a b : ℕ) → (a / 8 ≡ b / 8 → ⊥) → eqb (a / 8) (b / 8) ≡ false
        apart a b h = grind (arith, nat_tests)

  small : (q : ℕ) → list_any (eqb q) firsts ≡ true → q < 0x600000
  unfolding firsts
  small q e =
      let size : length (map (λ k. part_addr (byte_of st) r.first k / 8) (range_with_len 0 r.count)) ≡ r.count = length-map-range_with_len (λ k. part_addr (byte_of st) r.first k / 8) 0 r.count in
      let f = any_found (eqb q) (map (λ k. part_addr (byte_of st) r.first k / 8) (range_with_len 0 r.count)) e in
      let j = f.1.0 in
      let l : j < r.count = (let h = f.1.1 in omega (arith, size)) in
      let at : f.0 ≡ part_addr (byte_of st) r.first j / 8 = sym f.1.2 ∙ get_or-map-range_with_len (λ k. part_addr (byte_of st) r.first k / 8) 0 r.count j j f.0 l (omega arith) in
      let low = (chain_of roots st name r agree is).low j l in
      let same : q ≡ f.0 = eqb-true q f.0 f.2 in
      omega arith

  pub count_bound : r.count ≤ 0x600000
  unfolding firsts
  count_bound =
      let size : length (map (λ k. part_addr (byte_of st) r.first k / 8) (range_with_len 0 r.count)) ≡ r.count = length-map-range_with_len (λ k. part_addr (byte_of st) r.first k / 8) 0 r.count in
      let most : length (map (λ k. part_addr (byte_of st) r.first k / 8) (range_with_len 0 r.count)) ≤ 0x600000 = length-le_from_distinct_below firsts 0x600000 (IsDistinct-from_apart eqb firsts differ) small in
      omega (arith, size, most)

  -- nor many free cells
  pub free_bound : IsCounted (byte_of st) r → r.free < 9223372036854775808
  free_bound counted =
      let n = count_bound in
      let f = free_most (byte_of st) r.first r.count (λ j l. ((agree.chained name r is).parts j l).few) in
      let e = counted.free in
      omega arith
