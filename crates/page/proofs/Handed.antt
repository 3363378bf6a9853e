-- What the labels mean once a mother's gifts are handed over.
use Rattle.std.proofs.Common.{◌≡◌, ◌≢◌, ℕ, ◌<◌, ◌==◌, ◌&&◌, ◌||◌, nat_lt, inl, inr, not, Bool, true, false, cond, Option, Some, None, IsSome, refl, sym, ap, ◌∙◌, arith, ltb-true}
use Rattle.std.specs.FinMap.{get}
use Rattle.std.proofs.lemmas.Bool.{and_parts, false_from_ne_true}
use Rattle.std.proofs.lemmas.Bool.Decides.{nat_tests}
use Rattle.mvs_model.specs.declared.name.Name.{Name}
use Rattle.mvs_model.specs.declared.want.Residence.{Residence}
use Rattle.mvs_model.specs.Finite.{has}
use Rattle.mvs_model.specs.Gifts.{GiftsValue, gives, has_bit, shares}
use Rattle.mvs_model.specs.Name.{same_name}
use Rattle.mvs_model.specs.Owners.{Attach, Owners, entry, gives_shared, is_active, is_given, owns}
use Rattle.mvs_model.proofs.ByCase.{attach_refusal}
use Rattle.mvs_model.specs.WellFormed.{Owned}
use Rattle.mvs_model.proofs.Below.{below_some, some_below}
use Rattle.mvs_model.proofs.Orders.{same_name_is, same_name_self}
use Rattle.mvs_model.proofs.Tests.{false_true, none_some, same_self, true_false}
use Rattle.page.specs.Picture.{Label, Means}
use Rattle.page.proofs.Numbered.{Numbered, below_numbered}
use Rattle.page.proofs.Readied.{Readied, readied}

-- the name was no task's, and the mother owns what she gives
accepted : (o : Owners) (t name : Name) (gifts : GiftsValue) → attach_refusal o t name gifts ≡ None → (is_active o name ≡ false) × (gives_shared o t gifts ≡ false)
accepted o t name gifts e = grind (arith, nat_tests)

-- what passes the test of what is given
given_there : (b : Bool) (v : Option ℕ) (s : ℕ) → (b && has (λ r. r == s) v) ≡ true → (b ≡ true) × (v ≡ Some s)
given_there b v s h = grind (arith, nat_tests)

module _ (o : Owners) (t name : Name) (gifts : GiftsValue) (residence : Residence) (w : Owners) (a : Attach o t name gifts residence w) (own : Owned o) (numbered : Numbered o) (active : is_active o t ≡ true) (refusal : attach_refusal o t name gifts ≡ None) where
  pub made : Readied o t (shares gifts) a.ready
  made = readied o t (shares gifts) 128 a.ready a.made

  ready_numbered : Numbered a.ready
  ready_numbered = below_numbered o t (shares gifts) 128 a.ready a.made numbered

  fresh : is_active o name ≡ false
  fresh = (accepted o t name gifts refusal).0

  -- an active task is another one
  pub not_new : (u : Name) → is_active o u ≡ true → same_name u name ≡ false
  not_new u is = false_from_ne_true (same_name u name) (λ e. true_false (sym is ∙ ap (is_active o) (same_name_is u name e) ∙ fresh))

  pub no_entry : (n s : ℕ) → entry o name n ≡ Some s → ⊥
  no_entry n s is = true_false (sym (own.active name n s is) ∙ fresh)

  -- ---- what is given

  low : (n : ℕ) → gives gifts n ≡ true → n < 128
  low n g = ltb-true n 128 (and_parts (nat_lt n 128) (has_bit gifts.given n) g).0

  pub given_from : (n s : ℕ) → gives gifts n ≡ true → entry a.ready t n ≡ Some s → is_given a.ready t gifts s ≡ true
  given_from n s g is = some_below (λ n. gives gifts n && has (λ r. r == s) (entry a.ready t n)) 128 n (low n g) ((λ i. g i && has (λ r. r == s) (is i)) ∙ same_self s)

  given_number : (s : ℕ) → is_given a.ready t gifts s ≡ true → (n : ℕ) × (gives gifts n ≡ true) × (entry a.ready t n ≡ Some s)
  given_number s is =
      let f = below_some (λ n. gives gifts n && has (λ r. r == s) (entry a.ready t n)) 128 is in
      let k = given_there (gives gifts f.0) (entry a.ready t f.0) s f.2 in
      (f.0, k.0, k.1)

  -- the mother owns it before
  given_owned : (n s : ℕ) → gives gifts n ≡ true → entry a.ready t n ≡ Some s → get a.ready.owner s ≡ Some t
  given_owned n s g is = elim (made.own n s is) [ inr h ↦ h | inl h ↦ made.owner s t (owned_old h) ] where
    owned_old : entry o t n ≡ Some s → get o.owner s ≡ Some t
    owned_old h = at (owns o t s) refl where
      named : (v : Option Name) → has (same_name t) v ≡ true → v ≡ Some t
      named None e = false_true e
      named (Some u) e = ap Some (sym (same_name_is t u e))

      at : (b : Bool) → owns o t s ≡ b → get o.owner s ≡ Some t
      at true e = named (get o.owner s) e
      at false e = true_false (sym (some_below (λ n. gives gifts n && has (λ s. not (owns o t s)) (entry o t n)) 128 n (low n g) ((λ i. g i && has (λ s. not (owns o t s)) (h i)) ∙ ap not e)) ∙ (accepted o t name gifts refusal).1)

  -- ---- owners and entries after the ATTACH

  pub owner_given : (s : ℕ) → is_given a.ready t gifts s ≡ true → get w.owner s ≡ Some name
  owner_given s e = a.owner s ∙ ap (λ b. cond b (Some name) (get a.ready.owner s)) e

  owner_kept : (s : ℕ) → is_given a.ready t gifts s ≡ false → get w.owner s ≡ get a.ready.owner s
  owner_kept s e = a.owner s ∙ ap (λ b. cond b (Some name) (get a.ready.owner s)) e

  pub entry_new : (n : ℕ) → entry w name n ≡ cond (gives gifts n || shares gifts n) (entry a.ready t n) None
  entry_new n = a.table name n ∙ ap (λ b. cond b (cond (gives gifts n || shares gifts n) (entry a.ready t n) None) (cond (same_name name t && gives gifts n) None (entry a.ready name n))) (same_name_self name)

  pub entry_old : (u : Name) (n : ℕ) → same_name u name ≡ false → entry w u n ≡ cond (same_name u t && gives gifts n) None (entry a.ready u n)
  entry_old u n e = a.table u n ∙ ap (λ b. cond b (cond (gives gifts n || shares gifts n) (entry a.ready t n) None) (cond (same_name u t && gives gifts n) None (entry a.ready u n))) e

  -- what the subtask has the mother had
  pub from_mother : (n s : ℕ) → entry w name n ≡ Some s → entry a.ready t n ≡ Some s
  from_mother n s is = at (gives gifts n || shares gifts n) (sym (entry_new n) ∙ is) where
    at : (b : Bool) → cond b (entry a.ready t n) None ≡ Some s → entry a.ready t n ≡ Some s
    at true e = e
    at false e = none_some e

  to_subtask : (n s : ℕ) → (gives gifts n || shares gifts n) ≡ true → entry a.ready t n ≡ Some s → entry w name n ≡ Some s
  to_subtask n s g is = entry_new n ∙ ap (λ b. cond b (entry a.ready t n) None) g ∙ is

  -- ---- labels

  -- one that is not of what is given goes on to mean its subpool
  pub kept_means : (l : Label) (s : ℕ) → (same_name l.owner t && gives gifts l.number) ≡ false → Means o l s → Means w l s
  kept_means l s out m =
      let r = made.stay l s m in
      let n = own.active l.owner l.number s m.under in
      record {
        owned = owner_kept s (false_from_ne_true (is_given a.ready t gifts s) (λ e.
            let g = given_number s e in
            let owner : Some t ≡ Some l.owner = sym (given_owned g.0 s g.1 g.2) ∙ r.owned in
            let owner_is : l.owner ≡ t = cc in
            let number_is : l.number ≡ g.0 = ready_numbered.one_number l.owner t l.number g.0 s r.under g.2 in
            true_false (((λ i. sym (same_name_self t) i && sym g.1 i) ∙ (λ i. same_name (sym owner_is i) t && gives gifts (sym number_is i))) ∙ out))) ∙ r.owned;
        under = entry_old l.owner l.number (not_new l.owner n) ∙ ap (λ b. cond b None (entry a.ready l.owner l.number)) out ∙ r.under;
      }

  -- one of what is given means it with the new owner
  pub given_means : (n s : ℕ) → gives gifts n ≡ true → Means o (record { number = n; owner = t }) s → Means w (record { number = n; owner = name }) s
  given_means n s g m =
      let r = made.stay (record { number = n; owner = t }) s m in
      record { owned = owner_given s (given_from n s g r.under); under = to_subtask n s (ap (λ b. b || shares gifts n) g) r.under }

  -- what the subtask owns is what is given
  pub owned_given : (n s : ℕ) → entry w name n ≡ Some s → get w.owner s ≡ Some name → gives gifts n ≡ true
  owned_given n s is owner = at (is_given a.ready t gifts s) refl where
    old_owner : (u : Name) → is_active o u ≡ true → get a.ready.owner s ≡ Some u → is_given a.ready t gifts s ≡ false → ⊥
    old_owner u there e out =
        let same : Some u ≡ Some name = sym e ∙ sym (owner_kept s out) ∙ owner in
        let is : u ≡ name = cc in
        true_false (sym there ∙ ap (is_active o) is ∙ fresh)

    had : is_given a.ready t gifts s ≡ false → entry o t n ≡ Some s → (v : Option Name) → get o.owner s ≡ v → IsSome v → ⊥
    had out h None e some = false_true some
    had out h (Some u) e some = let m = own.owned u s e in old_owner u (own.active u m.0 s m.1) (made.owner s u e) out

    at : (b : Bool) → is_given a.ready t gifts s ≡ b → gives gifts n ≡ true
    at true e = let g = given_number s e in ap (gives gifts) (ready_numbered.one_number t t n g.0 s (from_mother n s is) g.2) ∙ g.1
    at false e = elim (made.own n s (from_mother n s is)) [
      | inl h ↦ absurd (had e h (get o.owner s) refl (own.has_owner t n s h))
      | inr h ↦ absurd (old_owner t active h e)
    ]

  -- what it has of another owner is not given
  pub shared_kept : (n s : ℕ) (u : Name) → entry w name n ≡ Some s → get w.owner s ≡ Some u → u ≢ name → gives gifts n ≡ false
  shared_kept n s u is owner other = false_from_ne_true (gives gifts n) (λ g.
      let same : Some u ≡ Some name = sym owner ∙ owner_given s (given_from n s g (from_mother n s is)) in
      other (cc))

  -- ---- entries under one number

  -- a task that is not the subtask, and not the mother where the number is given, has what it had, or what the subtask has of the mother
  pub entry_kept : (u : Name) (n : ℕ) → same_name u name ≡ false → (same_name u t && gives gifts n) ≡ false → entry w u n ≡ entry a.ready u n
  entry_kept u n e out = entry_old u n e ∙ ap (λ b. cond b None (entry a.ready u n)) out

  -- a number under which the subtask has nothing is as before
  pub entry_none : (u : Name) (n : ℕ) → entry w name n ≡ None → entry w u n ≡ entry o u n
  entry_none u n none = at (same_name u name) refl where
    no_old : (v : Option ℕ) → entry o t n ≡ v → (gives gifts n || shares gifts n) ≡ true → v ≡ None
    no_old None e g = refl
    no_old (Some s) e g = none_some (sym none ∙ to_subtask n s g (made.entries t n s e))

    no_new : (v : Option ℕ) → entry o name n ≡ v → v ≡ None
    no_new None e = refl
    no_new (Some s) e = absurd (no_entry n s e)

    either : (g h : Bool) → gives gifts n ≡ g → shares gifts n ≡ h → same_name u t ≡ true → same_name u name ≡ false → entry w u n ≡ entry o u n
    either true h g k is new = entry_old u n new ∙ (λ i. cond (is i && g i) None (entry a.ready u n)) ∙ sym (ap (λ x. entry o x n) (same_name_is u t is) ∙ no_old (entry o t n) refl (ap (λ b. b || shares gifts n) g))
    either false true g k is new =
        let both : (gives gifts n || shares gifts n) ≡ true = (λ i. g i || k i) in
        entry_kept u n new ((λ i. is i && g i)) ∙ ap (λ x. entry a.ready x n) (same_name_is u t is) ∙ sym (entry_new n ∙ ap (λ b. cond b (entry a.ready t n) None) both) ∙ none ∙ sym (ap (λ x. entry o x n) (same_name_is u t is) ∙ no_old (entry o t n) refl both)
    either false false g k is new = entry_kept u n new ((λ i. is i && g i)) ∙ made.others u n ((λ i. is i && k i))

    by : (b : Bool) → same_name u t ≡ b → same_name u name ≡ false → entry w u n ≡ entry o u n
    by true is new = either (gives gifts n) (shares gifts n) refl refl is new
    by false is new = entry_kept u n new (ap (λ b. b && gives gifts n) is) ∙ made.others u n (ap (λ b. b && shares gifts n) is)

    at : (b : Bool) → same_name u name ≡ b → entry w u n ≡ entry o u n
    at true is = ap (λ x. entry w x n) (same_name_is u name is) ∙ none ∙ sym (ap (λ x. entry o x n) (same_name_is u name is) ∙ no_new (entry o name n) refl)
    at false new = by (same_name u t) refl new
