-- The subpools whose owner is not active are collected.
use Rattle.std.proofs.Common.{◌≡◌, ◌≢◌, ℕ, zero, suc, ◌+◌, ◌<◌, ◌≤◌, Bool, true, false, cond, not, is_some, ◌&&◌, ◌||◌, List, [], ◌∷◌, Option, Some, None, length, eqb, ltb, set, sym, ap, subst, refl, ◌∙◌, arith, ◌⊎◌, inl, inr}
use Rattle.std.specs.Prelude.{◌==◌, nat_eq, slice_index_or}
use Rattle.std.specs.Option.{option_eq}
use Rattle.std.proofs.lemmas.Bool.{eqb-true, eq-eqb, cases_lt, cases_eq, or_right, or_cases, or_left}
use Rattle.std.proofs.lemmas.Bool.Decides.{nat_tests, eqb_tells}
use Rattle.std.specs.List.Sorted.{IsStrictlySortedBy}
use Rattle.std.specs.Ordering.{nat_cmp}
use Rattle.slab.specs.Slab.{Slab, get, slab_len}
use Rattle.mvs_model.specs.Finite.{has, kept}
use Rattle.mvs_model.specs.Storage.{is_one_of}
use Rattle.task_owner.specs.Seats.{item_at, number_of}
use Rattle.task_owner.specs.Family.{IsFreed, falls_free, is_owner_active, is_of, is_freed_below, OwnersHave, FreedBelow, TrimsBy, IsTrimmedBy, Loses, IsLost}
use Rattle.task_owner.specs.declared.task_slot.TaskSlot.{TaskSlot}
use Rattle.task_owner.specs.declared.task_slot.Owned.{Owned}
use Rattle.task_owner.proofs.Places.{read_at, same_or_not, set_apart}
use Rattle.task_owner.proofs.Bools.{or_false}
use Rattle.mvs_model.proofs.Tests.{same_test}

-- The set has what it had and only subpools that the task owns besides, among these all that stand under a number below the bound.
pub record CollectedBelow (numbers : List (Option ℕ)) (key : ℕ) (owned : List (Option Owned)) (old : List ℕ) (bound : ℕ) (now : List ℕ) : Type 0 where
  pub stays : (s : ℕ) → is_one_of old s ≡ true → is_one_of now s ≡ true
  pub own : (s : ℕ) → is_one_of now s ≡ true → (is_of key (item_at owned s) ≡ true) ⊎ (is_one_of old s ≡ true)
  pub found : (n s : ℕ) → n < bound → item_at numbers n ≡ Some s → is_of key (item_at owned s) ≡ true → is_one_of now s ≡ true

the_owner : (key : ℕ) (o : Option Owned) → is_of key o ≡ true → (p : Owned) × (o ≡ Some p) × (p.owner ≡ key)
the_owner key None e = absurd (let f : false ≡ true = e in cc)
the_owner key (Some p) e = (p, refl, eqb-true p.owner key e)

module _ (numbers : List (Option ℕ)) (key : ℕ) (owned : List (Option Owned)) (old : List ℕ) where
  pub collected_all : (n : ℕ) (now : List ℕ) → CollectedBelow numbers key owned old n now → ((s : ℕ) (o : Owned) → item_at owned s ≡ Some o → o.owner ≡ key → (o.number < n) × (item_at numbers o.number ≡ Some s))
      → (s : ℕ) → is_one_of now s ≡ (is_of key (item_at owned s) || is_one_of old s)
  collected_all n now r listed s = same_test (is_one_of now s) (is_of key (item_at owned s) || is_one_of old s)
      (λ e. elim (r.own s e) [ inl b ↦ or_left (is_of key (item_at owned s)) (is_one_of old s) b | inr b ↦ or_right (is_of key (item_at owned s)) (is_one_of old s) b ])
      (λ e. elim (or_cases (is_of key (item_at owned s)) (is_one_of old s) e) [
        | inl b ↦ (let o = the_owner key (item_at owned s) b in let l = listed s o.0 o.1 o.2 in r.found o.0.number s l.0 l.1 b)
        | inr b ↦ r.stays s b
      ])

both_not : (b c : Bool) → (b ≡ true → c ≡ false) → (b && c) ≡ false
both_not true c h = h refl
both_not false c h = refl

-- what a task has under a number, as it was read
pub number_read : (x : TaskSlot) (n : ℕ) (o : Option ℕ) → o ≡ slice_index_or x.numbers n o → n < 133 → length x.numbers ≡ 133 → number_of x n ≡ o
number_read x n o e low long = ap (λ b. cond b (item_at x.numbers n) None) (let t : ltb n 133 ≡ true = grind (arith, nat_tests) in t) ∙ read_at x.numbers n n o e refl (omega (arith, long))

-- two that are reported as equal, and two that are not
pub option_eq_same : (o : Option ℕ) (s : ℕ) → option_eq nat_eq o (Some s) ≡ true → o ≡ Some s
option_eq_same None s e = absurd (let f : false ≡ true = e in cc)
option_eq_same (Some r) s e = ap Some (eqb-true r s e)

pub option_eq_other : (o : Option ℕ) (s : ℕ) → option_eq nat_eq o (Some s) ≡ false → o ≡ Some s → ⊥
option_eq_other o s e same = let f : false ≡ true = sym e ∙ ap (λ p. option_eq nat_eq p (Some s)) same ∙ eq-eqb s s refl in cc

-- a task that has not got a subpool loses nothing
pub nothing_lost : (number s : ℕ) (o : Option TaskSlot) → ((x : TaskSlot) → o ≡ Some x → number_of x number ≡ Some s → ⊥) → IsLost number s o o
nothing_lost number s None h = refl
nothing_lost number s (Some x) h = (x, refl, record { name = refl; mother = refl; residence = refl; numbers = λ n. sym (ap (λ b. cond b None (number_of x n)) (fails n)) }) where
  other : (o : Option ℕ) → (o ≡ Some s → ⊥) → has (λ r. r == s) o ≡ false
  other None d = refl
  other (Some r) d = by (eqb_tells r s) where
    by : ((eqb r s ≡ true) × (r ≡ s)) ⊎ ((eqb r s ≡ false) × (r ≢ s)) → eqb r s ≡ false
    by (inl p) = absurd (d (ap Some p.1))
    by (inr p) = p.0

  fails : (n : ℕ) → ((n == number) && has (λ r. r == s) (number_of x n)) ≡ false
  fails n = both_not (n == number) (has (λ r. r == s) (number_of x n)) (λ t. other (number_of x n) (λ e. h x refl (ap (number_of x) (sym (eqb-true n number t)) ∙ e)))

none_here : {X : Type 0} (xs : List (Option X)) (r : ℕ) → item_at (set xs r None) r ≡ None
none_here [] r = refl
none_here (x ∷ xs) zero = refl
none_here (x ∷ xs) (suc r) = none_here xs r

-- a task is out: what it owned is collected besides
pub freed_more : (before after : Slab TaskSlot) (owned : List (Option Owned)) (key : ℕ) (old now : List ℕ) → get after key ≡ None → ((k : ℕ) → k ≢ key → get after k ≡ get before k)
    → ((s : ℕ) → is_one_of old s ≡ falls_free before owned s) → ((s : ℕ) → is_one_of now s ≡ (is_of key (item_at owned s) || is_one_of old s)) → IsFreed after owned now
freed_more before after owned key old now gone others was is s = is s ∙ ap (λ b. is_of key (item_at owned s) || b) (was s) ∙ at (item_at owned s) where
  at : (o : Option Owned) → (is_of key o || has (λ p. not (is_owner_active before p)) o) ≡ has (λ p. not (is_owner_active after p)) o
  at None = refl
  at (Some o) = by (eqb_tells o.owner key) where
    by : ((eqb o.owner key ≡ true) × (o.owner ≡ key)) ⊎ ((eqb o.owner key ≡ false) × (o.owner ≢ key)) → (eqb o.owner key || not (is_some (get before o.owner))) ≡ not (is_some (get after o.owner))
    by (inl p) = ap (λ b. b || not (is_some (get before o.owner))) p.0 ∙ sym (ap (λ k. not (is_some (get after k))) p.1 ∙ ap (λ v. not (is_some v)) gone)
    by (inr p) = ap (λ b. b || not (is_some (get before o.owner))) p.0 ∙ sym (ap (λ v. not (is_some v)) (others o.owner p.1))

-- While the subpools are freed one by one. Those passed are the ones of the set below a bound.
module _ (freed : List ℕ) where
  -- the bound passes the next one of the set
  module _ (old mid next : Slab TaskSlot) (owned now left : List (Option Owned)) (from to r number : ℕ) (after : from ≤ r) (to_is : to ≡ r + 1) (member : is_one_of freed r ≡ true)
      (skipped : (s : ℕ) → from ≤ s → s < r → is_one_of freed s ≡ false) (was : FreedBelow old owned freed from mid now) (left_is : left ≡ set now r None) (long : length left ≡ length now) where
    below_to : (s : ℕ) → is_freed_below freed to s ≡ (is_freed_below freed from s || (s == r))
    below_to s = by (cases_lt s from) (cases_eq s r) where
      by : (s < from) ⊎ (from ≤ s) → (s ≡ r) ⊎ (s ≢ r) → is_freed_below freed to s ≡ (is_freed_below freed from s || (s == r))
      by p (inl e) =
          ap (λ b. b && is_one_of freed s) (let t : ltb s to ≡ true = grind (arith, nat_tests) in t) ∙ ap (is_one_of freed) e ∙ member
          ∙ sym (ap (λ b. is_freed_below freed from s || b) (let t : (s == r) ≡ true = grind (arith, nat_tests) in t) ∙ or_right (is_freed_below freed from s) true refl)
      by (inl low) (inr d) =
          ap (λ b. b && is_one_of freed s) ((let t : ltb s to ≡ true = grind (arith, nat_tests) in t) ∙ sym (let t : ltb s from ≡ true = grind (arith, nat_tests) in t))
          ∙ sym (ap (λ b. is_freed_below freed from s || b) (let t : (s == r) ≡ false = grind (arith, nat_tests) in t) ∙ or_false (is_freed_below freed from s))
      by (inr high) (inr d) = both_not (ltb s to) (is_one_of freed s) (λ t. skipped s high (let l : s < to = grind (arith, nat_tests) in omega (arith, d, l)))
          ∙ sym (ap (λ b. is_freed_below freed from s || b) (let t : (s == r) ≡ false = grind (arith, nat_tests) in t) ∙ or_false (is_freed_below freed from s)
          ∙ ap (λ b. b && is_one_of freed s) (let t : ltb s from ≡ false = grind (arith, nat_tests) in t))

    owners_next : (s : ℕ) → item_at left s ≡ cond (is_freed_below freed to s) None (item_at owned s)
    owners_next s = by (same_or_not s r) where
      by : (s ≡ r) ⊎ (s ≢ r) → item_at left s ≡ cond (is_freed_below freed to s) None (item_at owned s)
      by (inl e) =
          ap (item_at left) e ∙ ap (λ xs. item_at xs r) left_is ∙ none_here now r
          ∙ sym (ap (λ b. cond b None (item_at owned s)) (below_to s ∙ ap (λ b. is_freed_below freed from s || b) (let t : (s == r) ≡ true = grind (arith, nat_tests) in t) ∙ or_right (is_freed_below freed from s) true refl))
      by (inr d) =
          ap (λ xs. item_at xs s) left_is ∙ set_apart now r s None d ∙ was.owners s
          ∙ ap (λ b. cond b None (item_at owned s)) (sym (below_to s ∙ ap (λ b. is_freed_below freed from s || b) (let t : (s == r) ≡ false = grind (arith, nat_tests) in t) ∙ or_false (is_freed_below freed from s)))

    kept_again : (o : Option ℕ) → cond (has (λ s. s == r) (kept (λ s. not (is_freed_below freed from s)) o)) None (kept (λ s. not (is_freed_below freed from s)) o) ≡ kept (λ s. not (is_freed_below freed to s)) o
    kept_again None = refl
    kept_again (Some s) = by (is_freed_below freed from s) ∙ ap (λ b. cond (not b) (Some s) None) (sym (below_to s)) where
      two : (c : Bool) → cond c None (Some s) ≡ cond (not c) (Some s) None
      two true = refl
      two false = refl

      by : (b : Bool) → cond (has (λ s. s == r) (cond (not b) (Some s) None)) None (cond (not b) (Some s) None) ≡ cond (not (b || (s == r))) (Some s) None
      by true = refl
      by false = two (s == r)

    -- each entry for it stands under its number
    pub freed_next : (lost : (k : ℕ) → IsLost number r (get mid k) (get next k)) (at_number : (k n : ℕ) (x : TaskSlot) → get old k ≡ Some x → number_of x n ≡ Some r → n ≡ number)
        → slab_len next ≡ slab_len mid → next.capacity ≡ mid.capacity → FreedBelow old owned freed to next left
    freed_next lost at_number len capacity = record {
      owners = owners_next;
      each = λ k. at k (get old k) refl (get mid k) refl (was.each k) (lost k);
      sizes = long ∙ was.sizes;
      len = len ∙ was.len;
      capacity = capacity ∙ was.capacity;
    } where
      numbers : (k : ℕ) (x y z : TaskSlot) → get old k ≡ Some x → TrimsBy (λ s. not (is_freed_below freed from s)) x y → Loses number r y z → (n : ℕ) → number_of z n ≡ kept (λ s. not (is_freed_below freed to s)) (number_of x n)
      numbers k x y z h t l n = l.numbers n ∙ ap (λ o. cond ((n == number) && has (λ s. s == r) o) None o) (t.numbers n) ∙ by (cases_eq n number) where
        no_test : (o : Option ℕ) → number_of x n ≡ o → n ≢ number → has (λ s. s == r) (kept (λ s. not (is_freed_below freed from s)) o) ≡ false
        no_test None e d = refl
        no_test (Some s) e d = two (cases_eq s r) (is_freed_below freed from s) where
          two : (s ≡ r) ⊎ (s ≢ r) → (b : Bool) → has (λ s. s == r) (cond (not b) (Some s) None) ≡ false
          two (inl same) b = absurd (d (at_number k n x h (e ∙ ap Some same)))
          two (inr other) true = refl
          two (inr other) false = grind (arith, nat_tests)

        by : (n ≡ number) ⊎ (n ≢ number) → cond ((n == number) && has (λ s. s == r) (kept (λ s. not (is_freed_below freed from s)) (number_of x n))) None (kept (λ s. not (is_freed_below freed from s)) (number_of x n)) ≡ kept (λ s. not (is_freed_below freed to s)) (number_of x n)
        by (inl e) = ap (λ b. cond (b && has (λ s. s == r) (kept (λ s. not (is_freed_below freed from s)) (number_of x n))) None (kept (λ s. not (is_freed_below freed from s)) (number_of x n))) (let t : (n == number) ≡ true = grind (arith, nat_tests) in t) ∙ kept_again (number_of x n)
        by (inr d) =
            ap (λ b. cond (b && has (λ s. s == r) (kept (λ s. not (is_freed_below freed from s)) (number_of x n))) None (kept (λ s. not (is_freed_below freed from s)) (number_of x n))) (let t : (n == number) ≡ false = grind (arith, nat_tests) in t)
            ∙ ap (λ b. cond b None (kept (λ s. not (is_freed_below freed from s)) (number_of x n))) (sym (no_test (number_of x n) refl d))
            ∙ kept_again (number_of x n)

      at : (k : ℕ) (o : Option TaskSlot) → get old k ≡ o → (p : Option TaskSlot) → get mid k ≡ p → IsTrimmedBy (λ s. not (is_freed_below freed from s)) o p → IsLost number r p (get next k) → IsTrimmedBy (λ s. not (is_freed_below freed to s)) o (get next k)
      at k None e None f t l = l
      at k None e (Some y) f t l = absurd (let g : ◌≡◌ {A = Option TaskSlot} (Some y) None = t in cc)
      at k (Some x) e None f t l = absurd (let g : ◌≡◌ {A = Option TaskSlot} None (Some t.0) = t.1 in cc)
      at k (Some x) e (Some y) f t l =
          let g : Some y ≡ Some t.0 = t.1 in
          let same : t.0 ≡ y = cc in
          let u : TrimsBy (λ s. not (is_freed_below freed from s)) x y = subst (λ (v : TaskSlot). TrimsBy (λ s. not (is_freed_below freed from s)) x v) same t.2 in
          (l.0, l.1, record { name = l.2.name ∙ u.name; mother = l.2.mother ∙ u.mother; residence = l.2.residence ∙ u.residence; numbers = numbers k x y l.0 e u l.2 })

pub was_there : (b : Bool) (p : Option Owned) (o : Owned) → cond b None p ≡ Some o → p ≡ Some o
was_there true p o e = absurd (let f : ◌≡◌ {A = Option Owned} None (Some o) = e in cc)
was_there false p o e = e

-- a subpool that stands under a number
pub number_inside : (x : TaskSlot) (n s : ℕ) → number_of x n ≡ Some s → (n < 133) × (item_at x.numbers n ≡ Some s)
number_inside x n s e = by (cases_lt n 133) where
  by : (n < 133) ⊎ (133 ≤ n) → (n < 133) × (item_at x.numbers n ≡ Some s)
  by (inl low) = (low, ap (λ b. cond b (item_at x.numbers n) None) (sym (let t : ltb n 133 ≡ true = grind (arith, nat_tests) in t)) ∙ e)
  by (inr high) = absurd (let f : ◌≡◌ {A = Option ℕ} None (Some s) = ap (λ b. cond b (item_at x.numbers n) None) (sym (let t : ltb n 133 ≡ false = grind (arith, nat_tests) in t)) ∙ e in cc)

-- before a task goes, each owner is active
pub none_freed : (active : Slab TaskSlot) (owned : List (Option Owned)) → OwnersHave active.slots owned → (s : ℕ) → false ≡ falls_free active owned s
none_freed active owned have s = at (item_at owned s) refl where
  at : (o : Option Owned) → item_at owned s ≡ o → false ≡ has (λ p. not (is_owner_active active p)) o
  at None e = refl
  at (Some o) e = let y = have s o e in sym (ap (λ v. not (is_some v)) y.1)

pub nothing_rises : (xs : List ℕ) → xs ≡ [] → IsStrictlySortedBy nat_cmp xs
unfolding IsStrictlySortedBy
nothing_rises [] e = tt
nothing_rises (x ∷ xs) e = absurd (let f : x ∷ xs ≡ [] = e in cc)
