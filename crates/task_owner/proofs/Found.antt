-- A task that is looked for among those of a slab.
use Rattle.std.proofs.Common.{◌≡◌, ◌<◌, ℕ, List, [], ◌∷◌, Some, true, false, refl, sym, ap, subst, ◌∙◌, arith, inl, inr, Contains}
use Rattle.std.specs.Prelude.{nat_eq}
use Rattle.std.specs.Cmp.Lexicographic.{pointwise}
use Rattle.std.proofs.lemmas.Bool.Decides.{Decides-eqb}
use Rattle.std.proofs.lemmas.Slice.Eq.{slice_eq-Decides}
use Rattle.slab.specs.Slab.{Slab, get, entries}
use Rattle.slab.proofs.SlabLemmas.{Contains-cons, Contains-cons_cases, Contains-entries}
use Rattle.task_owner.specs.declared.task_slot.TaskSlot.{TaskSlot}

-- two names that are reported as equal, and two that are not
pub one_name : (a b : List ℕ) → pointwise nat_eq a b ≡ true → a ≡ b
one_name a b e = (slice_eq-Decides Decides-eqb a b _ refl).0 e

pub two_names : (a b : List ℕ) → pointwise nat_eq a b ≡ false → a ≡ b → ⊥
two_names a b e same = let f : false ≡ true = sym e ∙ (slice_eq-Decides Decides-eqb a b _ refl).1 same in cc

-- The tasks that are left are tasks of the slab, and each one that is looked for is among them.
pub record Unseen (active : Slab TaskSlot) (Sought : TaskSlot → Type 0) (left : List (ℕ × TaskSlot)) : Type 0 where
  pub there : (k : ℕ) (x : TaskSlot) → Contains left (k, x) → get active k ≡ Some x
  pub sought : (k : ℕ) (x : TaskSlot) → get active k ≡ Some x → Sought x → Contains left (k, x)

module _ (active : Slab TaskSlot) (Sought : TaskSlot → Type 0) (left : List (ℕ × TaskSlot)) where
  -- at first all are left
  pub unseen_all : left ≡ entries active → Unseen active Sought left
  unseen_all all = record {
    there = λ k x listed. (Contains-entries active k x).0 (subst (λ l. Contains l (k, x)) all listed);
    sought = λ k x found _. subst (λ l. Contains l (k, x)) (sym all) ((Contains-entries active k x).1 found);
  }

  -- where none is left none is looked for
  pub unseen_none : left ≡ [] → Unseen active Sought left → (k : ℕ) (x : TaskSlot) → get active k ≡ Some x → Sought x → ⊥
  unseen_none empty u k x found passes =
      let listed = subst (λ l. Contains l (k, x)) empty (u.sought k x found passes) in
      let within : listed.0 < 0 = listed.1 in omega arith

  module _ (key : ℕ) (seat : TaskSlot) (rest : List (ℕ × TaskSlot)) (step : left ≡ (key, seat) ∷ rest) (u : Unseen active Sought left) where
    -- the first that is left is a task of the slab
    pub unseen_first : get active key ≡ Some seat
    unseen_first = u.there key seat (subst (λ l. Contains l (key, seat)) (sym step) (0, omega arith, refl))

    -- one that is not looked for is passed
    pub unseen_rest : (Sought seat → ⊥) → Unseen active Sought rest
    unseen_rest other = record {
      there = λ k x listed. u.there k x (subst (λ l. Contains l (k, x)) (sym step) (Contains-cons (key, seat) (k, x) rest listed));
      sought = λ k x found passes. elim (Contains-cons_cases (key, seat) (k, x) rest (subst (λ l. Contains l (k, x)) step (u.sought k x found passes))) [
        | inl here ↦ absurd (other (subst Sought (sym (ap (λ p. p.1) here)) passes))
        | inr there ↦ there
      ];
    }
