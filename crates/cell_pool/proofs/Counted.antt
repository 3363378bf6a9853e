-- What is kept of a pool beside its parts: where the last one is, how many cells are free, and a part before which all are full.
use Rattle.std.proofs.Common.{◌≡◌, ◌≢◌, ℕ, zero, suc, ◌+◌, ◌-◌, ◌*◌, ◌<◌, ◌≤◌, inl, inr, Bool, true, false, cond, Some, refl, sym, ap, ◌∙◌, subst, arith}
use Rattle.std.proofs.lemmas.Bool.{cases_eq}
use Rattle.std.specs.Option.{option_map}
use Rattle.std.specs.FinMap.{FinMap, get, same_map}
use Rattle.mvs_model.specs.declared.name.Name.{Name}
use Rattle.mvs_model.specs.Name.{name_cmp, same_name}
use Rattle.mvs_model.specs.Storage.{Storage}
use Rattle.mvs_model.specs.View.{state_of}
use Rattle.mvs_model.specs.WellFormed.{Apart}
use Rattle.mvs_model.proofs.Orders.{name_cmp_total, name_cmp-IsAntisymmetric, same_name_is, differs}
use Rattle.cell_pool.specs.Layout.{byte_of, count_at, taken_at, head_length}
use Rattle.cell_pool.specs.Roots.{Root, part_addr, parts_of, free_in, AreFull, is_taken, taken_of, pool_of, pools_of}
use Rattle.cell_pool.specs.Agree.{IsChained, IsCounted, AgreeParts, Agree}
use Rattle.cell_pool.specs.Laws.{KeepsParts}
use Rattle.cell_pool.proofs.Frame.{get-pools_of, addr, count_is, taken_is, kept}

-- one part more
pub free_next : (m : ℕ → ℕ) (first : ℕ) (n : ℕ) → free_in m first (n + 1) ≡ (count_at m (part_addr m first n) - taken_at m (part_addr m first n)) + free_in m first n
unfolding free_in
free_next m first n = ap (free_in m first) (let e : n + 1 ≡ suc n = omega arith in e)

pub free_none : (m : ℕ → ℕ) (first : ℕ) → free_in m first 0 ≡ 0
unfolding free_in
free_none m first = refl

-- where no cell is free, all parts are full, and where all are no cell is
pub full_of_none : (m : ℕ → ℕ) (first : ℕ) (n : ℕ) → free_in m first n ≡ 0 → AreFull m first n
unfolding free_in
full_of_none m first zero e j l = absurd (omega arith)
full_of_none m first (suc n) e j l = elim (cases_eq j n) [
  | inl s ↦ subst (λ k. count_at m (part_addr m first k) ≤ taken_at m (part_addr m first k)) (sym s) (omega arith)
  | inr ne ↦ full_of_none m first n (omega arith) j (omega arith)
]

pub none_of_full : (m : ℕ → ℕ) (first : ℕ) (n : ℕ) → AreFull m first n → free_in m first n ≡ 0
unfolding free_in
none_of_full m first zero full = refl
none_of_full m first (suc n) full = let e : free_in m first n ≡ 0 = none_of_full m first n (λ j l. full j (omega arith)) in let l = full n (omega arith) in omega arith

-- not many cells are
pub free_most : (m : ℕ → ℕ) (first : ℕ) (n : ℕ) → ((j : ℕ) → j < n → count_at m (part_addr m first j) ≤ 65536) → free_in m first n ≤ 65536 * n
unfolding free_in
free_most m first zero few = omega arith
free_most m first (suc n) few = let e : free_in m first n ≤ 65536 * n = free_most m first n (λ j l. few j (omega arith)) in let l = few n (omega arith) in omega arith

-- some are where a part is not full
pub some_free : (m : ℕ → ℕ) (first : ℕ) (n p : ℕ) → p < n → taken_at m (part_addr m first p) + 1 ≤ count_at m (part_addr m first p) → 1 ≤ free_in m first n
unfolding free_in
some_free m first zero p l room = absurd (omega arith)
some_free m first (suc n) p l room = elim (cases_eq n p) [
  | inl s ↦ (let h : taken_at m (part_addr m first n) + 1 ≤ count_at m (part_addr m first n) = subst (λ k. taken_at m (part_addr m first k) + 1 ≤ count_at m (part_addr m first k)) (sym s) room in omega arith)
  | inr ne ↦ (let h : 1 ≤ free_in m first n = some_free m first n p (omega arith) room in omega arith)
]

module _ (m n : ℕ → ℕ) (first : ℕ) where
  same_term : (a b c d : ℕ) → a ≡ b → c ≡ d → (e f : ℕ) → e ≡ f → (a - c) + e ≡ (b - d) + f
  same_term a b c d p q e f s = omega arith

  -- where each part has as many cells, and as many taken
  pub free_same : (k : ℕ) → ((j : ℕ) → j < k → count_at n (part_addr n first j) ≡ count_at m (part_addr m first j)) → ((j : ℕ) → j < k → taken_at n (part_addr n first j) ≡ taken_at m (part_addr m first j)) → free_in n first k ≡ free_in m first k
  unfolding free_in
  free_same zero counts takens = refl
  free_same (suc k) counts takens = same_term _ _ _ _ (counts k (omega arith)) (takens k (omega arith)) _ _ (free_same k (λ j l. counts j (omega arith)) (λ j l. takens j (omega arith)))

  pub full_same : (k : ℕ) → ((j : ℕ) → j < k → count_at n (part_addr n first j) ≡ count_at m (part_addr m first j)) → ((j : ℕ) → j < k → taken_at n (part_addr n first j) ≡ taken_at m (part_addr m first j)) → AreFull m first k → AreFull n first k
  full_same k counts takens full j l = let c = counts j l in let t = takens j l in let f = full j l in omega arith

  one_less : (a b c d : ℕ) → a ≡ b → c ≡ d + 1 → d + 1 ≤ b → (e f : ℕ) → e ≡ f → (a - c) + e + 1 ≡ (b - d) + f
  one_less a b c d p q l e f s = omega arith

  later_less : (a b c d : ℕ) → a ≡ b → c ≡ d → (e f : ℕ) → e + 1 ≡ f → (a - c) + e + 1 ≡ (b - d) + f
  later_less a b c d p q e f s = omega arith

  -- where one cell more of one part is taken
  pub free_less : (k p : ℕ) → p < k → ((j : ℕ) → j < k → count_at n (part_addr n first j) ≡ count_at m (part_addr m first j)) → ((j : ℕ) → j < k → j ≢ p → taken_at n (part_addr n first j) ≡ taken_at m (part_addr m first j))
      → taken_at n (part_addr n first p) ≡ taken_at m (part_addr m first p) + 1 → taken_at m (part_addr m first p) + 1 ≤ count_at m (part_addr m first p) → free_in n first k + 1 ≡ free_in m first k
  unfolding free_in
  free_less zero p l counts takens more room = absurd (omega arith)
  free_less (suc k) p l counts takens more room = elim (cases_eq k p) [
    | inl s ↦
        one_less _ _ _ _ (counts k (omega arith)) (subst (λ q. taken_at n (part_addr n first q) ≡ taken_at m (part_addr m first q) + 1) (sym s) more) (subst (λ q. taken_at m (part_addr m first q) + 1 ≤ count_at m (part_addr m first q)) (sym s) room) _ _
        (free_same k (λ j h. counts j (omega arith)) (λ j h. takens j (omega arith) (λ e. absurd (omega (arith, e, s, h)))))
    | inr ne ↦ later_less _ _ _ _ (counts k (omega arith)) (takens k (omega arith) ne) _ _ (free_less k p (omega arith) (λ j h. counts j (omega arith)) (λ j h. takens j (omega arith)) more room)
  ]

-- all that is kept beside the parts is so
pub counted_same : (m n : ℕ → ℕ) (r : Root) → ((j : ℕ) → j < r.count → part_addr n r.first j ≡ part_addr m r.first j) → ((j : ℕ) → j < r.count → count_at n (part_addr n r.first j) ≡ count_at m (part_addr m r.first j))
    → ((j : ℕ) → j < r.count → taken_at n (part_addr n r.first j) ≡ taken_at m (part_addr m r.first j)) → IsCounted m r → IsCounted n r
counted_same m n r addrs counts takens c = record {
  last = λ k e. c.last k e ∙ sym (addrs k (omega arith));
  free = c.free ∙ sym (free_same m n r.first r.count counts takens);
  number = c.number;
  is_part = c.is_part;
  open_part = c.open_part ∙ sym (addrs c.number c.is_part);
  full = full_same m n r.first c.number (λ j l. let h = c.is_part in counts j (omega arith)) (λ j l. let h = c.is_part in takens j (omega arith)) c.full;
}

-- storage that keeps the parts keeps all this
module _ (roots : FinMap name_cmp Root) (old new : Storage) (agree : AgreeParts roots old) (keeps : KeepsParts roots old new) (name : Name) (r : Root) (is : get roots name ≡ Some r) where
  addrs : (j : ℕ) → j ≤ r.count → part_addr (byte_of new) r.first j ≡ part_addr (byte_of old) r.first j
  addrs = addr roots old new agree keeps name r is

  head : (j : ℕ) → j < r.count → (x : ℕ) → part_addr (byte_of old) r.first j ≤ x → x < part_addr (byte_of old) r.first j + head_length (count_at (byte_of old) (part_addr (byte_of old) r.first j)) → byte_of new x ≡ byte_of old x
  head j l x low high = keeps.heads name r j x is l low high

  counts_kept : (j : ℕ) → j < r.count → count_at (byte_of new) (part_addr (byte_of new) r.first j) ≡ count_at (byte_of old) (part_addr (byte_of old) r.first j)
  counts_kept j l = ap (count_at (byte_of new)) (addrs j (omega arith)) ∙ count_is (byte_of old) (byte_of new) (part_addr (byte_of old) r.first j) (head j l)

  takens_kept : (j : ℕ) → j < r.count → taken_at (byte_of new) (part_addr (byte_of new) r.first j) ≡ taken_at (byte_of old) (part_addr (byte_of old) r.first j)
  takens_kept j l = ap (taken_at (byte_of new)) (addrs j (omega arith)) ∙ taken_is (byte_of old) (byte_of new) (part_addr (byte_of old) r.first j) (head j l)

  pub full_kept : (n : ℕ) → n ≤ r.count → AreFull (byte_of old) r.first n → AreFull (byte_of new) r.first n
  full_kept n l = full_same (byte_of old) (byte_of new) r.first n (λ j h. counts_kept j (omega arith)) (λ j h. takens_kept j (omega arith))

  pub counted_kept : IsCounted (byte_of old) r → IsCounted (byte_of new) r
  counted_kept = counted_same (byte_of old) (byte_of new) r (λ j l. addrs j (omega arith)) counts_kept takens_kept

  pub booked_kept : (free open_part : ℕ) → IsCounted (byte_of old) (record r { free = free; open_part = open_part }) → IsCounted (byte_of new) (record r { free = free; open_part = open_part })
  booked_kept free open_part = counted_same (byte_of old) (byte_of new) (record r { free = free; open_part = open_part }) (λ j l. addrs j (omega arith)) counts_kept takens_kept

-- all that agrees goes on to agree
pub all_kept : (roots : FinMap name_cmp Root) (old new : Storage) → Agree roots old → KeepsParts roots old new → Agree roots new × (pools_of roots new ≡ pools_of roots old)
all_kept roots old new agree keeps = let k = kept roots old new agree.parts keeps in (record { parts = k.0; counted = λ name r is. counted_kept roots old new agree.parts keeps name r is (agree.counted name r is) }, k.1)

module _ (roots new_roots : FinMap name_cmp Root) (st : Storage) (name : Name) (r : Root) (is : get roots name ≡ Some r) (free open_part : ℕ) (now : (n : Name) → get new_roots n ≡ cond (same_name n name) (Some (record r { free = free; open_part = open_part })) (get roots n)) where
  same_pool : pool_of (byte_of st) (record r { free = free; open_part = open_part }) ≡ pool_of (byte_of st) r
  unfolding parts_of is_taken taken_of
  same_pool = refl

  -- the pools are the same
  pub booked_pools : pools_of new_roots st ≡ pools_of roots st
  booked_pools = same_map name_cmp_total name_cmp-IsAntisymmetric _ _ (λ n. get-pools_of new_roots st n ∙ ap (option_map (pool_of (byte_of st))) (now n) ∙ by n (same_name n name) refl ∙ sym (get-pools_of roots st n)) where
    by : (n : Name) (b : Bool) → same_name n name ≡ b → option_map (pool_of (byte_of st)) (cond b (Some (record r { free = free; open_part = open_part })) (get roots n)) ≡ option_map (pool_of (byte_of st)) (get roots n)
    by n true s = ap Some same_pool ∙ sym (ap (option_map (pool_of (byte_of st))) (ap (get roots) (same_name_is n name s) ∙ is))
    by n false s = refl

  pub booked_parts : AgreeParts roots st → AgreeParts new_roots st
  booked_parts agree = record {
    storage = agree.storage;
    bounded = agree.bounded;
    chained = λ n q e. by n (same_name n name) refl q (sym (now n) ∙ e);
    apart = λ o. subst (λ p. Apart (state_of st o p)) (sym booked_pools) (agree.apart o);
  } where
    chain : IsChained st (record r { free = free; open_part = open_part })
    chain = let k = agree.chained name r is in record { size = k.size; small = k.small; some = k.some; parts = k.parts; last = k.last; fill = k.fill }

    by : (n : Name) (b : Bool) → same_name n name ≡ b → (q : Root) → cond b (Some (record r { free = free; open_part = open_part })) (get roots n) ≡ Some q → IsChained st q
    by n true s q e = subst (IsChained st) (let f : record r { free = free; open_part = open_part } ≡ q = cc in f) chain
    by n false s q e = agree.chained n q e

  -- and all agrees where the record of this pool says what is so
  pub booked_agrees : AgreeParts roots st → IsCounted (byte_of st) (record r { free = free; open_part = open_part }) → ((n : Name) (q : Root) → get roots n ≡ Some q → n ≢ name → IsCounted (byte_of st) q) → Agree new_roots st
  booked_agrees agree counted others = record { parts = booked_parts agree; counted = λ n q e. by n (same_name n name) refl q (sym (now n) ∙ e) } where
    by : (n : Name) (b : Bool) → same_name n name ≡ b → (q : Root) → cond b (Some (record r { free = free; open_part = open_part })) (get roots n) ≡ Some q → IsCounted (byte_of st) q
    by n true s q e = subst (IsCounted (byte_of st)) (let f : record r { free = free; open_part = open_part } ≡ q = cc in f) counted
    by n false s q e = others n q e (differs n name s)
