-- A mother gets a subpool under each number that she shares.
use Rattle.std.proofs.Common.{◌≡◌, ◌≢◌, ℕ, zero, suc, ◌+◌, ◌-◌, ◌<◌, ◌≤◌, [], unwrap_or, Bool, true, false, cond, not, ◌&&◌, Option, Some, None, eqb, sym, ap, subst, refl, ◌∙◌, arith, ◌⊎◌, inl, inr}
use Rattle.std.specs.FinMap.{get}
use Rattle.std.specs.Option.{MatchOption}
use Rattle.std.proofs.lemmas.Bool.{not-false}
use Rattle.mvs_model.specs.declared.name.Name.{Name}
use Rattle.mvs_model.specs.Name.{same_name}
use Rattle.mvs_model.specs.Gifts.{GiftsValue, gives, shares}
use Rattle.mvs_model.specs.Finite.{has}
use Rattle.mvs_model.specs.Owners.{Owners, entry, owns, Binds, Enters, EntersBelow, none, passed, entered, gives_shared}
use Rattle.mvs_model.proofs.Orders.{same_name_is, same_name_self}
use Rattle.task_owner.specs.Tasks.{TasksValue, name_at, name_of}
use Rattle.task_owner.specs.Handing.{GetsEntry, SharesBelow}
use Rattle.task_owner.proofs.AnyBelow.{fails_below}
use Rattle.mvs_model.proofs.Below.{below_some}
use Rattle.std.proofs.lemmas.Bool.Decides.{eqb_tells}

pub none_yet : (old : TasksValue) (t : ℕ) (gifts : GiftsValue) → SharesBelow old t gifts 0 old
none_yet old t gifts = record { made = none; names = λ id. refl }

pub one_passed : (old now next : TasksValue) (t n : ℕ) (gifts : GiftsValue) → SharesBelow old t gifts n now → shares gifts n ≡ false → next ≡ now → SharesBelow old t gifts (n + 1) next
one_passed old now next t n gifts r h same = subst (λ v. SharesBelow old t gifts (n + 1) v) (sym same) (record {
  made = (let e : suc n ≡ n + 1 = omega arith in subst (λ m. EntersBelow old.owners (name_of old t) (shares gifts) m now.owners) e (passed r.made h));
  names = r.names;
})

-- numbers that are not shared are passed
pub passed_to : (old now : TasksValue) (t : ℕ) (gifts : GiftsValue) (from to : ℕ) → from ≤ to → SharesBelow old t gifts from now → ((n : ℕ) → from ≤ n → n < to → shares gifts n ≡ false) → SharesBelow old t gifts to now
passed_to old now t gifts from to le r free = by (to - from) to le refl free where
  by : (k to : ℕ) → from ≤ to → to - from ≡ k → ((n : ℕ) → from ≤ n → n < to → shares gifts n ≡ false) → SharesBelow old t gifts to now
  by zero to le e free = (let same : from ≡ to = omega arith in subst (λ m. SharesBelow old t gifts m now) same r)
  by (suc k) to le e free =
      let last : to - 1 + 1 ≡ to = omega arith in
      subst (λ m. SharesBelow old t gifts m now) last (one_passed old now now t (to - 1) gifts (by k (to - 1) (omega arith) (omega arith) (λ n low high. free n low (omega arith))) (free (to - 1) (omega arith) (omega arith)) refl)

pub one_entered : (old now next : TasksValue) (t n : ℕ) (gifts : GiftsValue) → SharesBelow old t gifts n now → shares gifts n ≡ true → GetsEntry now.owners (name_of now t) n next.owners → ((id : ℕ) → name_at next id ≡ name_at now id)
    → SharesBelow old t gifts (n + 1) next
one_entered old now next t n gifts r h g names = record {
  made =
      (let e : suc n ≡ n + 1 = omega arith in
      let same : name_of now t ≡ name_of old t = ap (λ o. unwrap_or o []) (r.names t) in
      let here : GetsEntry now.owners (name_of old t) n next.owners = subst (λ q. GetsEntry now.owners q n next.owners) same g in
      subst (λ m. EntersBelow old.owners (name_of old t) (shares gifts) m next.owners) e (entered here.subpool r.made h here.chosen here.entered));
  names = λ id. names id ∙ r.names id;
}

-- who enters a subpool stays what he was
module _ (t : Name) (wanted : ℕ → Bool) where
  one_task : (old new : Owners) (n s : ℕ) → Enters old t n s new → new.tasks ≡ old.tasks
  one_task old new n s e = by (entry old t n) e where
    by : (o : Option ℕ) → MatchOption o (Binds old t n s new) (λ _. new ≡ old) → new.tasks ≡ old.tasks
    by None b = b.tasks
    by (Some r) same = ap (λ (v : Owners). v.tasks) same

  pub same_tasks : (old now : Owners) (n : ℕ) → EntersBelow old t wanted n now → now.tasks ≡ old.tasks
  same_tasks old _ _ none = refl
  same_tasks old now _ (passed {number = n} r h) = same_tasks old now n r
  same_tasks old _ _ (entered s {number = n} {now = mid} {new = new} r h c e) = one_task mid new n s e ∙ same_tasks old mid n r

module _ (t : Name) (gifts : GiftsValue) where
  is_owner : (o : Option Name) → has (same_name t) o ≡ true → o ≡ Some t
  is_owner None h = absurd (let e : false ≡ true = h in cc)
  is_owner (Some q) h = ap Some (sym (same_name_is t q h))

  pub owns_given : (o : Owners) → gives_shared o t gifts ≡ false → (n r : ℕ) → n < 128 → gives gifts n ≡ true → entry o t n ≡ Some r → get o.owner r ≡ Some t
  owns_given o h n r l g e =
      let f = fails_below (λ n. gives gifts n && has (λ s. not (owns o t s)) (entry o t n)) n 128 l h in
      is_owner (get o.owner r) (not-false (owns o t r) (sym (λ i. g i && has (λ s. not (owns o t s)) (e i)) ∙ f))

  pub gives_owned : (o : Owners) → ((n r : ℕ) → n < 128 → gives gifts n ≡ true → entry o t n ≡ Some r → get o.owner r ≡ Some t) → gives_shared o t gifts ≡ false
  gives_owned o h = by (gives_shared o t gifts) refl where
    two : (n : ℕ) → n < 128 → (b : Bool) → gives gifts n ≡ b → (p : Option ℕ) → entry o t n ≡ p → (b && has (λ s. not (owns o t s)) p) ≡ true → ⊥
    two n l true g (Some r) e f =
        let mine : owns o t r ≡ true = ap (has (same_name t)) (h n r l g e) ∙ same_name_self t in
        let no' : false ≡ true = sym (ap not mine) ∙ f in cc
    two n l true g None e f = let no' : false ≡ true = f in cc
    two n l false g p e f = let no' : false ≡ true = f in cc

    by : (b : Bool) → gives_shared o t gifts ≡ b → b ≡ false
    by false e = refl
    by true e = let r = below_some (λ n. gives gifts n && has (λ s. not (owns o t s)) (entry o t n)) 128 e in absurd (two r.0 r.1 (gives gifts r.0) refl (entry o t r.0) refl r.2)

  -- a subpool that the mother gets is her own
  bound_owned : (old new : Owners) (k s : ℕ) → Binds old t k s new → ((n r : ℕ) → n < 128 → gives gifts n ≡ true → entry old t n ≡ Some r → get old.owner r ≡ Some t)
      → (n r : ℕ) → n < 128 → gives gifts n ≡ true → entry new t n ≡ Some r → get new.owner r ≡ Some t
  bound_owned old new k s b h n r l g e = b.owner r ∙ at (eqb_tells r s) (eqb_tells n k) where
    entry_is : entry new t n ≡ cond (eqb n k) (Some s) (entry old t n)
    entry_is = b.table (t, n) ∙ ap (λ c. cond (c && eqb n k) (Some s) (entry old t n)) (same_name_self t)

    at : ((eqb r s ≡ true) × (r ≡ s)) ⊎ ((eqb r s ≡ false) × (r ≢ s)) → ((eqb n k ≡ true) × (n ≡ k)) ⊎ ((eqb n k ≡ false) × (n ≢ k)) → cond (eqb r s) (Some t) (get old.owner r) ≡ Some t
    at (inl p) q = ap (λ c. cond c (Some t) (get old.owner r)) p.0
    at (inr p) (inl q) =
        let f : Some r ≡ Some s = sym e ∙ entry_is ∙ ap (λ c. cond c (Some s) (entry old t n)) q.0 in
        let same : r ≡ s = cc in absurd (p.1 same)
    at (inr p) (inr q) = ap (λ c. cond c (Some t) (get old.owner r)) p.0 ∙ h n r l g (sym (entry_is ∙ ap (λ c. cond c (Some s) (entry old t n)) q.0) ∙ e)

  entered_owned : (old new : Owners) (k s : ℕ) → Enters old t k s new → gives_shared old t gifts ≡ false → gives_shared new t gifts ≡ false
  entered_owned old new k s e h = by (entry old t k) e where
    by : (o : Option ℕ) → MatchOption o (Binds old t k s new) (λ _. new ≡ old) → gives_shared new t gifts ≡ false
    by None b = gives_owned new (bound_owned old new k s b (owns_given old h))
    by (Some r) same = ap (λ v. gives_shared v t gifts) same ∙ h

  pub still_owned : (wanted : ℕ → Bool) (old now : Owners) (n : ℕ) → EntersBelow old t wanted n now → gives_shared old t gifts ≡ false → gives_shared now t gifts ≡ false
  still_owned wanted old _ _ none h = h
  still_owned wanted old now _ (passed {number = n} r f) h = still_owned wanted old now n r h
  still_owned wanted old _ _ (entered s {number = n} {now = mid} {new = new} r f c e) h = entered_owned mid new n s e (still_owned wanted old mid n r h)
