-- What a mother gives and shares, number by number.
use Rattle.std.proofs.Common.{◌≡◌, ◌≢◌, ℕ, ◌+◌, ◌<◌, ◌≤◌, inl, inr, Bool, true, false, cond, ◌&&◌, ◌||◌, Option, Some, None, List, eqb, ltb, refl, sym, ap, ◌∙◌, arith}
use Rattle.std.proofs.lemmas.Bool.{cases_lt, cases_eq, and_parts}
use Rattle.std.proofs.lemmas.Bool.Decides.{nat_tests}
use Rattle.mvs_model.specs.Gifts.{GiftsValue, gives}
use Rattle.task_owner.specs.Seats.{item_at}
use Rattle.task_owner.specs.Handing.{is_handed, owned_anew, passed_below}
use Rattle.task_owner.specs.declared.task_slot.Owned.{Owned}

pub given_or_shared : (g s : Bool) (o : Option ℕ) → cond g o (cond s o None) ≡ cond (g || s) o None
given_or_shared true s o = refl
given_or_shared false s o = refl

-- who owns a subpool that the mother gives
abbrev anew : ℕ → ℕ → Owned → Bool → Option Owned
anew mother key o b = Some (cond b (record { owner = key; number = o.number }) o)

module _ (gifts : GiftsValue) (mother key : ℕ) where
  -- a bound makes no difference to a subpool under a number that is not given between
  bound_moves : (o : Owned) (from to : ℕ) → from ≤ to → ((n : ℕ) → from ≤ n → n < to → is_handed gifts mother o ≡ true → o.number ≡ n → ⊥) → (is_handed gifts mother o && ltb o.number from) ≡ (is_handed gifts mother o && ltb o.number to)
  bound_moves o from to le apart = by (is_handed gifts mother o) refl where
    by : (b : Bool) → is_handed gifts mother o ≡ b → (b && ltb o.number from) ≡ (b && ltb o.number to)
    by false e = refl
    by true e = elim (cases_lt o.number from) [
      | inl low ↦ (let t : ltb o.number from ≡ true = grind (arith, nat_tests) in t) ∙ sym (let t : ltb o.number to ≡ true = grind (arith, nat_tests) in t)
      | inr high ↦ elim (cases_lt o.number to) [
        | inl below ↦ absurd (apart o.number high below e refl)
        | inr past ↦ (let t : ltb o.number from ≡ false = grind (arith, nat_tests) in t) ∙ sym (let t : ltb o.number to ≡ false = grind (arith, nat_tests) in t)
      ]
    ]

  pub same_bound : (from to : ℕ) (p : Option Owned) → from ≤ to → ((o : Owned) (n : ℕ) → p ≡ Some o → from ≤ n → n < to → is_handed gifts mother o ≡ true → o.number ≡ n → ⊥) → passed_below gifts mother key from p ≡ passed_below gifts mother key to p
  same_bound from to None le apart = refl
  same_bound from to (Some o) le apart = ap (anew mother key o) (bound_moves o from to le (λ n low high. apart o n refl low high))

  handed_gives : (o : Owned) → is_handed gifts mother o ≡ true → gives gifts o.number ≡ true
  handed_gives o h = (and_parts (eqb o.owner mother) (gives gifts o.number) h).1

  -- the one under the next number that is given
  pub here_passed : (from n : ℕ) (o : Owned) → from ≤ n → gives gifts n ≡ true → o.number ≡ n → owned_anew mother key (passed_below gifts mother key from (Some o)) ≡ passed_below gifts mother key (n + 1) (Some o)
  here_passed from n o after g e =
      ap (λ b. owned_anew mother key (anew mother key o b)) before ∙ ap (anew mother key o) now
    where
      before : (is_handed gifts mother o && ltb o.number from) ≡ false
      before = by (is_handed gifts mother o) where
        by : (b : Bool) → (b && ltb o.number from) ≡ false
        by true = grind (arith, nat_tests)
        by false = refl

      now : eqb o.owner mother ≡ (is_handed gifts mother o && ltb o.number (n + 1))
      now =
          let given : gives gifts o.number ≡ true = ap (gives gifts) e ∙ g in
          let low : ltb o.number (n + 1) ≡ true = grind (arith, nat_tests) in
          sym ((λ i. (eqb o.owner mother && given i) && low i) ∙ all (eqb o.owner mother))
        where
          all : (b : Bool) → ((b && true) && true) ≡ b
          all true = refl
          all false = refl

  module _ (numbers : List (Option ℕ)) (old now next : ℕ → Option Owned) (from n : ℕ) (after : from ≤ n) (given : gives gifts n ≡ true) (between : (i : ℕ) → from ≤ i → i < n → gives gifts i ≡ false)
      (listed : (s : ℕ) (o : Owned) → old s ≡ Some o → is_handed gifts mother o ≡ true → item_at numbers o.number ≡ Some s) (was : (s : ℕ) → now s ≡ passed_below gifts mother key from (old s)) where
    -- a subpool that does not stand under the number
    elsewhere : (s : ℕ) → (item_at numbers n ≡ Some s → ⊥) → passed_below gifts mother key from (old s) ≡ passed_below gifts mother key (n + 1) (old s)
    elsewhere s apart = same_bound from (n + 1) (old s) (omega arith) (λ o m e low high h is. elim (cases_eq m n) [
      | inl same ↦ apart (ap (item_at numbers) (sym (is ∙ same)) ∙ listed s o e h)
      | inr other ↦ (let f : true ≡ false = sym (handed_gives o h) ∙ ap (gives gifts) is ∙ between m low (omega (arith, other)) in cc)
    ])

    pub next_passed : (r : ℕ) → item_at numbers n ≡ Some r → (o : Owned) → old r ≡ Some o → o.number ≡ n → next r ≡ owned_anew mother key (now r) → ((s : ℕ) → s ≢ r → next s ≡ now s)
        → (s : ℕ) → next s ≡ passed_below gifts mother key (n + 1) (old s)
    next_passed r at o there is here others s = elim (cases_eq s r) [
      | inl same ↦
          ap next same ∙ here ∙ ap (owned_anew mother key) (was r ∙ ap (passed_below gifts mother key from) there)
          ∙ here_passed from n o after given is ∙ ap (passed_below gifts mother key (n + 1)) (sym there ∙ ap old (sym same))
      | inr other ↦ others s other ∙ was s ∙ elsewhere s (λ f. (let g : Some r ≡ Some s = sym at ∙ f in let e : r ≡ s = cc in other (sym e)))
    ]

    pub none_at : ((s : ℕ) → item_at numbers n ≡ Some s → ⊥) → ((s : ℕ) → next s ≡ now s) → (s : ℕ) → next s ≡ passed_below gifts mother key (n + 1) (old s)
    none_at none same s = same s ∙ was s ∙ elsewhere s (none s)
