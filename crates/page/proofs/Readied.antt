-- The subpools that a mother has once those that she shares are made.
use Rattle.std.proofs.Common.{◌≡◌, ◌⊎◌, ℕ, zero, suc, ◌==◌, ◌&&◌, inl, inr, Bool, true, false, Some, refl, sym, ap, ◌∙◌, eqb-true}
use Rattle.std.specs.FinMap.{get}
use Rattle.std.proofs.lemmas.Bool.{and_parts, false_from_ne_true}
use Rattle.mvs_model.specs.declared.name.Name.{Name}
use Rattle.mvs_model.specs.Name.{same_name}
use Rattle.mvs_model.specs.Owners.{EntersBelow, Owners, entered, entry, none, passed}
use Rattle.mvs_model.proofs.Tests.{true_false}
use Rattle.page.specs.Picture.{Label, Means}
use Rattle.page.proofs.Labels.{enters_else, enters_entry, enters_own, enters_owner, enters_stay}

-- What is so after them: what was there stays, only the mother has more, under the numbers that are wanted, and that she owns.
pub record Readied (o : Owners) (t : Name) (wanted : ℕ → Bool) (ready : Owners) : Type 0 where
  pub stay : (l : Label) (s : ℕ) → Means o l s → Means ready l s
  pub owner : (s : ℕ) (u : Name) → get o.owner s ≡ Some u → get ready.owner s ≡ Some u
  pub entries : (u : Name) (n s : ℕ) → entry o u n ≡ Some s → entry ready u n ≡ Some s
  pub others : (u : Name) (n : ℕ) → (same_name u t && wanted n) ≡ false → entry ready u n ≡ entry o u n
  pub own : (n s : ℕ) → entry ready t n ≡ Some s → (entry o t n ≡ Some s) ⊎ (get ready.owner s ≡ Some t)

-- a number that is wanted is no other
not_there : (u t : Name) (m n : ℕ) (wanted : ℕ → Bool) → wanted n ≡ true → (same_name u t && wanted m) ≡ false → (same_name u t && (m == n)) ≡ false
not_there u t m n wanted is out = false_from_ne_true (same_name u t && (m == n)) (λ e.
    let k = and_parts (same_name u t) (m == n) e in
    true_false ((λ i. sym k.0 i && (sym is ∙ ap wanted (sym (eqb-true m n k.1))) i) ∙ out))

pub readied : (o : Owners) (t : Name) (wanted : ℕ → Bool) (n : ℕ) (ready : Owners) → EntersBelow o t wanted n ready → Readied o t wanted ready
readied o t wanted zero ready none = record { stay = λ l s m. m; owner = λ s u e. e; entries = λ u n s e. e; others = λ u n e. refl; own = λ n s e. inl e }
readied o t wanted (suc n) ready (passed before e) = readied o t wanted n ready before
readied o t wanted (suc n) ready (entered s {now = now} before e of enters) =
    let k = readied o t wanted n now before in
    record {
      stay = λ l r m. enters_stay now t n s ready of enters l r (k.stay l r m);
      owner = λ r u is. enters_owner now t n s ready of enters r u (k.owner r u is);
      entries = λ u m r is. enters_entry now t n s ready enters u m r (k.entries u m r is);
      others = λ u m out. enters_else now t n s ready enters u m (not_there u t m n wanted e out) ∙ k.others u m out;
      own = λ m r is. elim (enters_own now t n s ready enters m r is) [
        | inl h ↦ elim (k.own m r h) [ inl j ↦ inl j | inr j ↦ inr (enters_owner now t n s ready of enters r t j) ]
        | inr h ↦ inr h
      ];
    }
