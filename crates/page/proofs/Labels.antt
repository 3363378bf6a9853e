-- What the labels of subpools mean, and go on to mean.
use Rattle.std.proofs.Common.{◌≡◌, ◌⊎◌, ℕ, ◌==◌, ◌&&◌, inl, inr, Bool, true, false, cond, Option, Some, None, IsSome, MatchOption, eqb-true, refl, sym, ap, ◌∙◌, subst, arith}
use Rattle.std.specs.Option.{option_and_then, option_map}
use Rattle.std.specs.FinMap.{get}
use Rattle.std.proofs.lemmas.Bool.{and_parts}
use Rattle.std.proofs.lemmas.Bool.Decides.{nat_tests}
use Rattle.mvs_model.specs.declared.name.Name.{Name}
use Rattle.mvs_model.specs.Finite.{has}
use Rattle.mvs_model.specs.Name.{same_name}
use Rattle.mvs_model.specs.Owners.{Binds, Enters, IsSpare, Owners, SubpoolOf, entry, is_active, subpool_meant, effective_task}
use Rattle.mvs_model.specs.Reports.{label_of, number_of}
use Rattle.mvs_model.specs.Subpool.{is_subpool_number}
use Rattle.mvs_model.specs.WellFormed.{Owned}
use Rattle.mvs_model.proofs.Keepers.{number_low}
use Rattle.mvs_model.proofs.Orders.{same_name_is, same_name_self}
use Rattle.mvs_model.proofs.SeenReports.{first_only}
use Rattle.mvs_model.proofs.Tests.{false_true, none_some, same_self}
use Rattle.request_forms.specs.SubpoolLabels.{entry_owner, resolved_owner}
use Rattle.page.specs.Picture.{Label, Means}
use Rattle.page.proofs.Numbered.{Numbered}

-- ---- the label of a subpool

module _ (o : Owners) where
  -- the number that is found is one of the entry
  found : (t : Name) (s m n : ℕ) → cond (has (λ r. r == s) (entry o t m)) (Some m) None ≡ Some n → entry o t n ≡ Some s
  found t s m n e = at (entry o t m) refl e where
    at : (v : Option ℕ) → entry o t m ≡ v → cond (has (λ r. r == s) v) (Some m) None ≡ Some n → entry o t n ≡ Some s
    at None is e = none_some e
    at (Some r) is e = by (r == s) refl e where
      by : (b : Bool) → (r == s) ≡ b → cond b (Some m) None ≡ Some n → entry o t n ≡ Some s
      by true same f = let r_is : r ≡ s = grind (arith, nat_tests) in let m_is : m ≡ n = cc in ap (entry o t) (sym m_is) ∙ is ∙ ap Some r_is
      by false same f = none_some f

  -- a subpool that a task owns has a label, which means it
  labelled : (t : Name) (s : ℕ) → Owned o → Numbered o → get o.owner s ≡ Some t → (n : ℕ) × (label_of o (Some s) ≡ Some (n, t)) × Means o (record { number = n; owner = t }) s
  labelled t s own k is =
      let n = own.owned t s is in
      let here : cond (has (λ r. r == s) (entry o t n.0)) (Some n.0) None ≡ Some n.0 = ap (λ v. cond (has (λ r. r == s) v) (Some n.0) None) n.1 ∙ ap (λ b. cond b (Some n.0) None) (same_self s) in
      let number : number_of o t s ≡ Some n.0 = first_only 0 133 n.0 (λ m. cond (has (λ r. r == s) (entry o t m)) (Some m) None) n.0 (omega arith) (number_low n.0 (own.numbers t n.0 s n.1)) here (λ m y _ _ e. k.one_number t t y n.0 s (found t s m y e) n.1) in (
        n.0,
        ap (λ v. option_and_then (λ t. option_map (λ n. (n, t)) (number_of o t s)) v) is ∙ ap (option_map (λ n. (n, t))) number,
        record { owned = is; under = n.1 },
      )

  -- so has one that a task has under a number
  pub labelled_entry : (t : Name) (number s : ℕ) → Owned o → Numbered o → entry o t number ≡ Some s → (l : ℕ × Name) × (label_of o (Some s) ≡ Some l) × Means o (record { number = l.0; owner = l.1 }) s
  labelled_entry t number s own k is = at (get o.owner s) refl (own.has_owner t number s is) where
    at : (v : Option Name) → get o.owner s ≡ v → IsSome v → (l : ℕ × Name) × (label_of o (Some s) ≡ Some l) × Means o (record { number = l.0; owner = l.1 }) s
    at None e some = false_true some
    at (Some u) e some = let l = labelled u s own k e in ((l.0, u), l.1, l.2)

  -- what an active task means by a number
  pub meant : (t : Name) (number s : ℕ) → Owned o → Numbered o → is_active o t ≡ true → is_subpool_number number ≡ true → subpool_meant o t number ≡ Some s
      → (l : ℕ × Name) × (resolved_owner o t number ≡ Some l) × Means o (record { number = l.0; owner = l.1 }) s
  meant t number s own k active valid is =
      let l = labelled_entry (effective_task o t number) number s own k is in
      (l.0, (λ i. cond (valid i && active i) (label_of o (is i)) None) ∙ l.1, l.2)

  -- what an active task has under one
  pub had : (t : Name) (number : ℕ) (v : Option (ℕ × Name)) → is_active o t ≡ true → label_of o (entry o t number) ≡ v → entry_owner o t number ≡ v
  had t number v active is = ap (λ b. cond b (label_of o (entry o t number)) None) active ∙ is

-- whose subpool is meant tell the tasks alone
pub keeper_same : (old new : Owners) (t : Name) (number : ℕ) → new.tasks ≡ old.tasks → effective_task new t number ≡ effective_task old t number
keeper_same old new t number e = λ i. effective_task (record old { tasks = e i }) t number

-- labels of one subpool are the same
pub one_label : (o : Owners) (l m : Label) (s : ℕ) → Numbered o → Means o l s → Means o m s → l ≡ m
one_label o l m s k a b =
    let owner : Some l.owner ≡ Some m.owner = sym a.owned ∙ b.owned in
    let owner_is : l.owner ≡ m.owner = cc in
    λ i. record { number = k.one_number l.owner m.owner l.number m.number s a.under b.under i; owner = owner_is i }

-- ---- a task enters a subpool

module _ (o : Owners) (t : Name) (number s : ℕ) (new : Owners) where
  -- it has it then
  pub entered : SubpoolOf o t number s → Enters o t number s new → entry new t number ≡ Some s
  entered of enters = at (entry o t number) refl of enters where
    at : (e : Option ℕ) → entry o t number ≡ e → MatchOption e (IsSpare o s) (λ r. s ≡ r) → MatchOption e (Binds o t number s new) (λ _. new ≡ o) → entry new t number ≡ Some s
    at None e spare b = b.table (t, number) ∙ (λ i. cond (same_name_self t i && same_self number i) (Some s) (entry o t number))
    at (Some r) e is same = ap (λ x. entry x t number) same ∙ e ∙ ap Some (sym is)

  -- what has an owner keeps it, and what a task has it keeps
  binds_owner : IsSpare o s → Binds o t number s new → (r : ℕ) (u : Name) → get o.owner r ≡ Some u → get new.owner r ≡ Some u
  binds_owner spare b r u e = b.owner r ∙ at (r == s) refl where
    at : (c : Bool) → (r == s) ≡ c → cond c (Some t) (get o.owner r) ≡ Some u
    at false f = e
    at true f = let r_is : r ≡ s = grind (arith, nat_tests) in let none : get o.owner r ≡ None = ap (get o.owner) r_is ∙ spare.spare in let x : None ≡ Some u = sym none ∙ e in absurd (cc)

  binds_entry : entry o t number ≡ None → Binds o t number s new → (u : Name) (n r : ℕ) → entry o u n ≡ Some r → entry new u n ≡ Some r
  binds_entry fresh b u n r e = b.table (u, n) ∙ at (same_name u t && (n == number)) refl where
    at : (c : Bool) → (same_name u t && (n == number)) ≡ c → cond c (Some s) (entry o u n) ≡ Some r
    at false f = e
    at true f =
        let k = and_parts (same_name u t) (n == number) f in
        let none : entry o u n ≡ None = (λ i. entry o (same_name_is u t k.0 i) (eqb-true n number k.1 i)) ∙ fresh in
        let x : None ≡ Some r = sym none ∙ e in absurd (cc)

  pub enters_stay : SubpoolOf o t number s → Enters o t number s new → (l : Label) (r : ℕ) → Means o l r → Means new l r
  enters_stay of enters l r m = at (entry o t number) refl of enters where
    at : (e : Option ℕ) → entry o t number ≡ e → MatchOption e (IsSpare o s) (λ r. s ≡ r) → MatchOption e (Binds o t number s new) (λ _. new ≡ o) → Means new l r
    at None e spare b = record { owned = binds_owner spare b r l.owner m.owned; under = binds_entry e b l.owner l.number r m.under }
    at (Some q) e is same = subst (λ x. Means x l r) (sym same) m

  -- what the tasks have then
  pub entered_table : SubpoolOf o t number s → Enters o t number s new → Numbered new → (l : Label) → Means new l s → (u : Name) (n : ℕ) → entry new u n ≡ cond (same_name u l.owner && (n == l.number)) (Some s) (entry o u n)
  entered_table of enters k l m u n = at (entry o t number) refl of enters where
    at : (e : Option ℕ) → entry o t number ≡ e → MatchOption e (IsSpare o s) (λ r. s ≡ r) → MatchOption e (Binds o t number s new) (λ _. new ≡ o) → entry new u n ≡ cond (same_name u l.owner && (n == l.number)) (Some s) (entry o u n)
    at None e spare b =
        let is = one_label new (record { number = number; owner = t }) l s k (record { owned = b.owner s ∙ ap (λ c. cond c (Some t) (get o.owner s)) (same_self s); under = entered of enters }) m in
        b.table (u, n) ∙ (λ i. cond (same_name u (is i).owner && (n == (is i).number)) (Some s) (entry o u n))
    at (Some r) e is same = by (same_name u l.owner && (n == l.number)) refl where
      by : (c : Bool) → (same_name u l.owner && (n == l.number)) ≡ c → entry new u n ≡ cond c (Some s) (entry o u n)
      by true f = let k = and_parts (same_name u l.owner) (n == l.number) f in (λ i. entry new (same_name_is u l.owner k.0 i) (eqb-true n l.number k.1 i)) ∙ m.under
      by false f = ap (λ x. entry x u n) same

  -- nothing changes where it had one
  pub enters_had : (r : ℕ) → entry o t number ≡ Some r → Enters o t number s new → new ≡ o
  enters_had r is enters = subst (λ v. MatchOption v (Binds o t number s new) (λ _. new ≡ o)) is enters

  -- an owner stays, an entry stays, and all others are as before
  pub enters_owner : SubpoolOf o t number s → Enters o t number s new → (r : ℕ) (u : Name) → get o.owner r ≡ Some u → get new.owner r ≡ Some u
  enters_owner of enters r u is = at (entry o t number) of enters where
    at : (e : Option ℕ) → MatchOption e (IsSpare o s) (λ r. s ≡ r) → MatchOption e (Binds o t number s new) (λ _. new ≡ o) → get new.owner r ≡ Some u
    at None spare b = binds_owner spare b r u is
    at (Some q) _ same = ap (λ x. get x.owner r) same ∙ is

  pub enters_entry : Enters o t number s new → (u : Name) (n r : ℕ) → entry o u n ≡ Some r → entry new u n ≡ Some r
  enters_entry enters u n r is = at (entry o t number) refl enters where
    at : (e : Option ℕ) → entry o t number ≡ e → MatchOption e (Binds o t number s new) (λ _. new ≡ o) → entry new u n ≡ Some r
    at None e b = binds_entry e b u n r is
    at (Some q) e same = ap (λ x. entry x u n) same ∙ is

  pub enters_else : Enters o t number s new → (u : Name) (n : ℕ) → (same_name u t && (n == number)) ≡ false → entry new u n ≡ entry o u n
  enters_else enters u n out = at (entry o t number) enters where
    at : (e : Option ℕ) → MatchOption e (Binds o t number s new) (λ _. new ≡ o) → entry new u n ≡ entry o u n
    at None b = b.table (u, n) ∙ ap (λ c. cond c (Some s) (entry o u n)) out
    at (Some q) same = ap (λ x. entry x u n) same

  -- what the task has then it had, or owns now
  pub enters_own : Enters o t number s new → (n r : ℕ) → entry new t n ≡ Some r → (entry o t n ≡ Some r) ⊎ (get new.owner r ≡ Some t)
  enters_own enters n r is = at (entry o t number) enters where
    by : Binds o t number s new → (c : Bool) → (same_name t t && (n == number)) ≡ c → cond c (Some s) (entry o t n) ≡ Some r → (entry o t n ≡ Some r) ⊎ (get new.owner r ≡ Some t)
    by b false f e = inl e
    by b true f e = let r_is : r ≡ s = (let g : Some s ≡ Some r = e in cc) in inr (ap (get new.owner) r_is ∙ b.owner s ∙ ap (λ c. cond c (Some t) (get o.owner s)) (same_self s))

    at : (e : Option ℕ) → MatchOption e (Binds o t number s new) (λ _. new ≡ o) → (entry o t n ≡ Some r) ⊎ (get new.owner r ≡ Some t)
    at None b = by b (same_name t t && (n == number)) refl (sym (b.table (t, n)) ∙ is)
    at (Some q) same = inl (sym (ap (λ x. entry x t n) same) ∙ is)
