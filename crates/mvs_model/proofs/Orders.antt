-- The orders of names and of entries are total, and what they call equal is the same.
use Rattle.std.proofs.Common.{◌≡◌, ◌≢◌, ℕ, true, false, List, eqb, ap, arith, sym, ◌∙◌, ◌&&◌, ◌==◌, Ordering, Equal, nat_cmp, is_eq}
use Rattle.std.proofs.lemmas.Bool.Decides.{nat_tests}
use Rattle.std.proofs.lemmas.Cmp.{then_total, on_total, nat_list_cmp_total, tied_itself}
use Rattle.std.specs.Ordering.{eq_by_cmp, ordering_then}
use Rattle.std.specs.Cmp.{IsTotalOrder, nat_cmp_total, Equal-is, eq_by_cmp_equiv}
use Rattle.std.specs.FinMap.{IsAntisymmetric, nat_cmp-IsAntisymmetric, slice_cmp-IsAntisymmetric}
use Rattle.std.proofs.lemmas.Bool.{false_from_ne_true}
use Rattle.mvs_model.specs.Name.{name_cmp, same_name}
use Rattle.mvs_model.specs.Owners.{entry_cmp}

pub name_cmp_total : IsTotalOrder name_cmp
name_cmp_total = nat_list_cmp_total

pub name_cmp-IsAntisymmetric : IsAntisymmetric name_cmp
name_cmp-IsAntisymmetric = slice_cmp-IsAntisymmetric nat_cmp-IsAntisymmetric

pub entry_cmp_total : IsTotalOrder entry_cmp
entry_cmp_total = then_total (on_total (λ e. e.0) name_cmp_total) (on_total (λ e. e.1) nat_cmp_total)

both_equal : (a b : Ordering) → ordering_then a b ≡ Equal → (a ≡ Equal) × (b ≡ Equal)
both_equal a b e = grind arith

pub entry_cmp-IsAntisymmetric : IsAntisymmetric entry_cmp
entry_cmp-IsAntisymmetric x y e =
    let parts : (name_cmp x.0 y.0 ≡ Equal) × (nat_cmp x.1 y.1 ≡ Equal) = both_equal (name_cmp x.0 y.0) (nat_cmp x.1 y.1) e in
    λ i. (name_cmp-IsAntisymmetric x.0 y.0 parts.0 i, nat_cmp-IsAntisymmetric x.1 y.1 parts.1 i)

module _ {K : Type 0} {R : K → K → Ordering} (same : IsAntisymmetric R) where
  pub equal_keys : (a b : K) → eq_by_cmp R a b ≡ true → a ≡ b
  equal_keys a b e = same a b ((Equal-is (R a b)).0 e)

-- two names are the same exactly where the test says so
pub same_name_is : (a b : List ℕ) → same_name a b ≡ true → a ≡ b
same_name_is a b e = equal_keys name_cmp-IsAntisymmetric a b e

pub same_name_self : (a : List ℕ) → same_name a a ≡ true
same_name_self a = ap is_eq (tied_itself nat_list_cmp_total a)

pub same_name_sym : (a b : List ℕ) → same_name a b ≡ same_name b a
same_name_sym a b = (eq_by_cmp_equiv name_cmp_total).symm a b

pub tied_pair : (a : Ordering) (m n : ℕ) → is_eq (ordering_then a (nat_cmp m n)) ≡ (is_eq a && eqb m n)
tied_pair a m n = grind (arith, nat_tests)

-- two entries are the same where their names and their numbers are
pub same_entry_is : (e d : List ℕ × ℕ) → eq_by_cmp entry_cmp e d ≡ (same_name e.0 d.0 && (e.1 == d.1))
same_entry_is e d = tied_pair (name_cmp e.0 d.0) e.1 d.1

-- names that the test tells apart
pub differs : (m n : List ℕ) → same_name m n ≡ false → m ≢ n
differs m n f e = let g : true ≡ false = sym (same_name_self n) ∙ ap (λ x. same_name x n) (sym e) ∙ f in cc

pub names_differ : (m n : List ℕ) → m ≢ n → same_name m n ≡ false
names_differ m n ne = false_from_ne_true (same_name m n) (λ e. ne (same_name_is m n e))
