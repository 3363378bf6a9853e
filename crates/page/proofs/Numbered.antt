-- In every state of a run each subpool stands under one number, whichever tasks have it.
use Rattle.std.proofs.Common.{◌≡◌, ◌⊎◌, ℕ, zero, suc, ◌==◌, ◌&&◌, ◌||◌, inl, inr, Bool, true, false, cond, List, Option, Some, None, IsSome, is_some, MatchOption, eqb-true, refl, sym, ap, ◌∙◌, subst, arith}
use Rattle.std.specs.FinMap.{get, get-empty}
use Rattle.std.proofs.lemmas.Bool.{and_parts}
use Rattle.std.proofs.lemmas.Bool.Decides.{nat_tests}
use Rattle.mvs_model.specs.declared.name.Name.{Name}
use Rattle.mvs_model.specs.Card.{CardValue}
use Rattle.mvs_model.specs.Finite.{Changes}
use Rattle.mvs_model.specs.Gifts.{GiftsValue, gives, shares}
use Rattle.mvs_model.specs.Name.{same_name}
use Rattle.mvs_model.specs.Owners.{Binds, Ends, Enters, EntersBelow, IsSpare, Owners, SubpoolOf, entered, entry, entry_cmp, handed, is_given, none, passed}
use Rattle.mvs_model.specs.Start.{start}
use Rattle.mvs_model.specs.State.{State}
use Rattle.mvs_laws.proofs.Kept.{Closed}
use Rattle.mvs_model.proofs.Tests.{none_some}

-- What a task has has an owner, and each task that has it has it under one number.
pub record Numbered (o : Owners) : Type 0 where
  pub has_owner : (t : Name) (n s : ℕ) → entry o t n ≡ Some s → IsSome (get o.owner s)
  pub one_number : (t q : Name) (m n s : ℕ) → entry o t m ≡ Some s → entry o q n ≡ Some s → m ≡ n

-- the same where each entry was one under its number before, and owners stay
follows : (old new : Owners) → Numbered old → ((t : Name) (n s : ℕ) → entry new t n ≡ Some s → ((u : Name) × (entry old u n ≡ Some s)) × IsSome (get new.owner s)) → Numbered new
follows old new k f = record {
  has_owner = λ t n s e. (f t n s e).1;
  one_number = λ t q m n s e g. let x = f t m s e in let y = f q n s g in k.one_number x.0.0 y.0.0 m n s x.0.1 y.0.1;
}

-- ---- a task enters a subpool

module _ (o : Owners) (t : Name) (number s : ℕ) (new : Owners) (k : Numbered o) where
  owner_stays : Binds o t number s new → (r : ℕ) → IsSome (get o.owner r) → IsSome (get new.owner r)
  owner_stays b r h = subst IsSome (sym (b.owner r)) (at (r == s)) where
    at : (c : Bool) → IsSome (cond c (Some t) (get o.owner r))
    at true = refl
    at false = h

  -- an entry is the new one, or was there
  new_entry : Binds o t number s new → (u : Name) (n r : ℕ) → entry new u n ≡ Some r → ((n ≡ number) × (r ≡ s)) ⊎ (entry o u n ≡ Some r)
  new_entry b u n r e = at (same_name u t && (n == number)) refl (sym (b.table (u, n)) ∙ e) where
    at : (c : Bool) → (same_name u t && (n == number)) ≡ c → cond c (Some s) (entry o u n) ≡ Some r → ((n ≡ number) × (r ≡ s)) ⊎ (entry o u n ≡ Some r)
    at true f g = inl (eqb-true n number (and_parts (same_name u t) (n == number) f).1, let h : Some s ≡ Some r = g in cc)
    at false f g = inr g

  bound : IsSpare o s → Binds o t number s new → Numbered new
  bound spare b = record {
    has_owner = λ u n r e. elim (new_entry b u n r e) [
      | inl h ↦ subst (λ x. IsSome (get new.owner x)) (sym h.1) here
      | inr h ↦ owner_stays b r (k.has_owner u n r h)
    ];
    one_number = λ u q m n r e g. elim (new_entry b u m r e) [
      | inl h ↦ elim (new_entry b q n r g) [ inl j ↦ h.0 ∙ sym j.0 | inr j ↦ absurd (unowned q n r h.1 j) ]
      | inr h ↦ elim (new_entry b q n r g) [ inl j ↦ absurd (unowned u m r j.1 h) | inr j ↦ k.one_number u q m n r h j ]
    ];
  } where
    here : IsSome (get new.owner s)
    here = subst IsSome (sym (b.owner s)) (let e : (s == s) ≡ true = grind (arith, nat_tests) in subst (λ c. IsSome (cond c (Some t) (get o.owner s))) (sym e) refl)

    unowned : (u : Name) (n r : ℕ) → r ≡ s → entry o u n ≡ Some r → ⊥
    unowned u n r is e = let h : is_some (get o.owner r) ≡ true = k.has_owner u n r e in let f : is_some (get o.owner r) ≡ false = ap (λ x. is_some (get o.owner x)) is ∙ ap is_some spare.spare in absurd (cc)

  enters_numbered : SubpoolOf o t number s → Enters o t number s new → Numbered new
  enters_numbered of enters = at (entry o t number) of enters where
    at : (e : Option ℕ) → MatchOption e (IsSpare o s) (λ r. s ≡ r) → MatchOption e (Binds o t number s new) (λ _. new ≡ o) → Numbered new
    at None spare b = bound spare b
    at (Some q) is same = subst Numbered (sym same) k

-- ---- tasks end

ends_numbered : (o : Owners) (t : Name) (fallen : List Name) (new : Owners) → Ends o t fallen new → Numbered o → Numbered new
ends_numbered o t fallen new ends k = grind (arith, nat_tests, follows)

-- ---- a subtask is attached

pub below_numbered : (o : Owners) (t : Name) (wanted : ℕ → Bool) (n : ℕ) (new : Owners) → EntersBelow o t wanted n new → Numbered o → Numbered new
below_numbered o t wanted zero new none k = k
below_numbered o t wanted (suc n) new (passed before e) k = below_numbered o t wanted n new before k
below_numbered o t wanted (suc n) new (entered s {now = now} before e of enters) k = enters_numbered now t n s new (below_numbered o t wanted n now before k) of enters

module _ (ready : Owners) (mother name : Name) (gifts : GiftsValue) (new : Owners) (table : (t : Name) (n : ℕ) → entry new t n ≡ handed ready mother name gifts t n) (owner : Changes (get ready.owner) (is_given ready mother gifts) (Some name) (get new.owner)) where
  -- what a task has another or it had under the number
  had_before : (t : Name) (n s : ℕ) → entry new t n ≡ Some s → (u : Name) × (entry ready u n ≡ Some s)
  had_before t n s e = at (same_name t name) (gives gifts n || shares gifts n) (same_name t mother && gives gifts n) (sym (table t n) ∙ e) where
    at : (a b c : Bool) → cond a (cond b (entry ready mother n) None) (cond c None (entry ready t n)) ≡ Some s → (u : Name) × (entry ready u n ≡ Some s)
    at true true c f = (mother, f)
    at true false c f = none_some f
    at false b true f = none_some f
    at false b false f = (t, f)

  attach_numbered : Numbered ready → Numbered new
  attach_numbered k = follows ready new k (λ t n s e. let h = had_before t n s e in (h, subst IsSome (sym (owner s)) (at s (is_given ready mother gifts s) (k.has_owner h.0 n s h.1)))) where
    at : (s : ℕ) (c : Bool) → IsSome (get ready.owner s) → IsSome (cond c (Some name) (get ready.owner s))
    at s true h = refl
    at s false h = h

-- ---- each change

same_numbered : (old new : State) → new.owners ≡ old.owners → Numbered old.owners → Numbered new.owners
same_numbered old new e k = subst Numbered (sym e) k

pub numbered_closed : Closed (λ st. Numbered st.owners)
numbered_closed = record {
  granted = λ old t number want p new asks g k. enters_numbered old.owners t number g.subpool new.owners k g.is_subpool g.owners;
  freed = λ old s ps new w r f k. same_numbered old new f.owners k;
  emptied = λ old s new e k. same_numbered old new e.owners k;
  ended = λ old t new e k. ends_numbered old.owners t e.fallen new.owners e.owners k;
  built = λ old t name number s plan p o new fresh r asks is enters x k. subst Numbered (sym x.owners_are) (enters_numbered old.owners t number s o k is enters);
  grown = λ old name pool p mid c new is x cell g k. same_numbered mid new g.owners (subst Numbered (sym x.owners_are) k);
  taken = λ old name pool c new is f g k. same_numbered old new g.owners k;
  given = λ old name pool c new is f g k. same_numbered old new g.owners k;
  dropped = λ old name pool new is g k. same_numbered old new g.owners k;
  attached = λ old t name gifts residence new active refusal g k. attach_numbered g.owners.ready t name gifts new.owners g.owners.table g.owners.owner (below_numbered old.owners t (shares gifts) 128 g.owners.ready g.owners.made k);
  written = λ old p value new e has g k. same_numbered old new g.owners k;
}

-- at the start no task has a subpool
pub start_numbered : (card : CardValue) → Numbered (start card).owners
start_numbered card = record {
  has_owner = λ t n s e. none_some (sym (get-empty entry_cmp (t, n)) ∙ e);
  one_number = λ t q m n s e g. none_some (sym (get-empty entry_cmp (t, m)) ∙ e);
}
