-- What is kept of the pools once a cell is taken or given back.
use Rattle.std.proofs.Common.{◌≡◌, ◌≢◌, ℕ, ◌+◌, ◌-◌, ◌/◌, ◌<◌, ◌≤◌, inl, inr, Bool, true, false, cond, Some, sym, ap, ◌∙◌, subst, arith}
use Rattle.std.specs.Prelude.{◌==◌}
use Rattle.std.proofs.lemmas.Bool.{cases_lt, eqb-true, eq-eqb}
use Rattle.std.specs.FinMap.{FinMap, get}
use Rattle.mvs_model.specs.declared.name.Name.{Name}
use Rattle.mvs_model.specs.Name.{name_cmp}
use Rattle.mvs_model.specs.Finite.{any_below}
use Rattle.mvs_model.specs.Storage.{Storage}
use Rattle.cell_pool.specs.Layout.{byte_of, count_at, taken_at}
use Rattle.cell_pool.specs.Roots.{Root, part_addr, free_in, AreFull}
use Rattle.cell_pool.specs.Agree.{IsCounted, AgreeParts}
use Rattle.cell_pool.specs.Marks.{Marks}
use Rattle.cell_pool.proofs.Counted.{full_same, counted_same, free_less}
use Rattle.cell_pool.proofs.Only.{misses, head_covered}
use Rattle.cell_pool.proofs.Marked.{addr_is, count_now, taken_else, one_addr}
use Rattle.mvs_model.proofs.Below.{some_below, below_some}

-- parts with other numbers stand at other addresses
pub one_number : (roots : FinMap name_cmp Root) (st : Storage) → AgreeParts roots st → (name : Name) (r : Root) → get roots name ≡ Some r → (j k : ℕ) → j < r.count → k < r.count → part_addr (byte_of st) r.first j ≡ part_addr (byte_of st) r.first k → j ≡ k
one_number roots st agree name r is j k lj lk e = elim (cases_lt j k) [
  | inl l ↦ absurd (misses roots st agree name r is j k l lk (part_addr (byte_of st) r.first j / 8) (head_covered roots st agree r j _ (omega arith) (omega arith)) (head_covered roots st agree r k _ (omega arith) (omega arith)))
  | inr m ↦ elim (cases_lt k j) [
    | inl l ↦ absurd (misses roots st agree name r is k j l lj (part_addr (byte_of st) r.first k / 8) (head_covered roots st agree r k _ (omega arith) (omega arith)) (head_covered roots st agree r j _ (omega arith) (omega arith)))
    | inr l ↦ omega arith
  ]
]

module _ (roots : FinMap name_cmp Root) (old new : Storage) (agree : AgreeParts roots old) (name : Name) (r : Root) (is : get roots name ≡ Some r) (p : ℕ) (lp : p < r.count) (i : ℕ) (li : i < count_at (byte_of old) (part_addr (byte_of old) r.first p))
    (v : Bool) (taken : ℕ) (marks : Marks old (part_addr (byte_of old) r.first p) i v taken new) where
  -- the other pools
  pub counted_other : (n : Name) (q : Root) → get roots n ≡ Some q → n ≢ name → IsCounted (byte_of old) q → IsCounted (byte_of new) q
  counted_other n q iq ne c = counted_same (byte_of old) (byte_of new) q
      (λ j l. addr_is roots old new agree name r is p lp i li v taken marks n q iq j (omega arith))
      (λ j l. count_now roots old new agree name r is p lp i li v taken marks n q iq j l)
      (λ j l. ap (taken_at (byte_of new)) (addr_is roots old new agree name r is p lp i li v taken marks n q iq j (omega arith)) ∙ taken_else roots old new agree name r is p lp i li v taken marks n q iq j l (λ e. ne (one_addr roots old new agree name r is p lp i li v taken marks n q iq j l e))) c

  -- the parts of this pool
  addrs : (j : ℕ) → j < r.count → part_addr (byte_of new) r.first j ≡ part_addr (byte_of old) r.first j
  addrs j l = addr_is roots old new agree name r is p lp i li v taken marks name r is j (omega arith)

  counts : (j : ℕ) → j < r.count → count_at (byte_of new) (part_addr (byte_of new) r.first j) ≡ count_at (byte_of old) (part_addr (byte_of old) r.first j)
  counts j l = count_now roots old new agree name r is p lp i li v taken marks name r is j l

  takens : (j : ℕ) → j < r.count → j ≢ p → taken_at (byte_of new) (part_addr (byte_of new) r.first j) ≡ taken_at (byte_of old) (part_addr (byte_of old) r.first j)
  takens j l ne = ap (taken_at (byte_of new)) (addrs j l) ∙ taken_else roots old new agree name r is p lp i li v taken marks name r is j l (λ e. ne (one_number roots old agree name r is j p l lp e))

  here : taken_at (byte_of new) (part_addr (byte_of new) r.first p) ≡ taken
  here = ap (taken_at (byte_of new)) (addrs p lp) ∙ marks.count

  below : (n : ℕ) → n ≤ p → AreFull (byte_of old) r.first n → AreFull (byte_of new) r.first n
  below n l full = full_same (byte_of old) (byte_of new) r.first n (λ j h. counts j (omega arith)) (λ j h. takens j (omega arith) (λ e. absurd (omega arith))) full

  -- a cell is taken
  pub counted_taken : taken ≡ taken_at (byte_of old) (part_addr (byte_of old) r.first p) + 1 → taken_at (byte_of old) (part_addr (byte_of old) r.first p) + 1 ≤ count_at (byte_of old) (part_addr (byte_of old) r.first p) → (k : ℕ) → k < r.count → AreFull (byte_of old) r.first k
      → IsCounted (byte_of old) r → IsCounted (byte_of new) (record r { free = r.free - 1; open_part = part_addr (byte_of old) r.first k })
  counted_taken more room k lk full c = record {
    last = λ k e. c.last k e ∙ sym (addrs k (omega arith));
    free = (let e : free_in (byte_of new) r.first r.count + 1 ≡ free_in (byte_of old) r.first r.count = free_less (byte_of old) (byte_of new) r.first r.count p lp counts takens (here ∙ more) room in let f = c.free in omega arith);
    number = k;
    is_part = lk;
    open_part = sym (addrs k lk);
    full = full_same (byte_of old) (byte_of new) r.first k (λ j h. counts j (omega arith)) (λ j h. takens j (omega arith) (λ e. absurd (
        let f : count_at (byte_of old) (part_addr (byte_of old) r.first p) ≤ taken_at (byte_of old) (part_addr (byte_of old) r.first p) = subst (λ q. count_at (byte_of old) (part_addr (byte_of old) r.first q) ≤ taken_at (byte_of old) (part_addr (byte_of old) r.first q)) e (full j h) in
        omega arith))) full;
  }

  -- or given back
  pub counted_freed : taken + 1 ≡ taken_at (byte_of old) (part_addr (byte_of old) r.first p) → taken_at (byte_of old) (part_addr (byte_of old) r.first p) ≤ count_at (byte_of old) (part_addr (byte_of old) r.first p)
      → (past : Bool) → past ≡ any_below (λ j. part_addr (byte_of old) r.first j == r.open_part) (p + 1)
      → IsCounted (byte_of old) r → IsCounted (byte_of new) (record r { free = r.free + 1; open_part = cond past r.open_part (part_addr (byte_of old) r.first p) })
  counted_freed less room past is_past c = by past is_past where
    more : free_in (byte_of old) r.first r.count + 1 ≡ free_in (byte_of new) r.first r.count
    more = free_less (byte_of new) (byte_of old) r.first r.count p lp (λ j l. sym (counts j l)) (λ j l ne. sym (takens j l ne)) (let h = here in omega arith) (let h = here in let k = counts p lp in omega arith)

    lasts : (k : ℕ) → r.count ≡ k + 1 → r.last ≡ part_addr (byte_of new) r.first k
    lasts k e = c.last k e ∙ sym (addrs k (omega arith))

    by : (b : Bool) → b ≡ any_below (λ j. part_addr (byte_of old) r.first j == r.open_part) (p + 1) → IsCounted (byte_of new) (record r { free = r.free + 1; open_part = cond b r.open_part (part_addr (byte_of old) r.first p) })
    by true e =
        let f = below_some (λ j. part_addr (byte_of old) r.first j == r.open_part) (p + 1) (sym e) in
        let l = f.1 in
        let number_is : c.number ≡ f.0 = one_number roots old agree name r is c.number f.0 c.is_part (omega arith) (sym c.open_part ∙ sym (eqb-true _ _ f.2)) in
        record {
          last = lasts;
          free = (let k = c.free in let m = more in omega arith);
          number = c.number;
          is_part = c.is_part;
          open_part = c.open_part ∙ sym (addrs c.number c.is_part);
          full = below c.number (omega arith) c.full;
        }
    by false e = record {
      last = lasts;
      free = (let k = c.free in let m = more in omega arith);
      number = p;
      is_part = lp;
      open_part = sym (addrs p lp);
      full = below p (omega arith) (λ j l. c.full j (elim (cases_lt c.number (p + 1)) [
        | inl h ↦ absurd (let t : true ≡ false = sym (some_below (λ j. part_addr (byte_of old) r.first j == r.open_part) (p + 1) c.number h (eq-eqb _ _ (sym c.open_part))) ∙ sym e in cc)
        | inr h ↦ omega arith
      ]));
    }
