-- What follows from the first of two names.
use Rattle.std.proofs.Common.{◌≡◌, Bool, true, false, Option, Some, None, refl, sym, ap, ◌∙◌, ◌⊎◌, inl, inr}
use Rattle.std.specs.Ordering.{is_lt}
use Rattle.std.specs.declared.cmp.Ordering.{Ordering}
use Rattle.std.specs.declared.cmp.Ordering.TheVariants.{Less, Equal, Greater}
use Rattle.mvs_model.specs.declared.name.Name.{Name}
use Rattle.mvs_model.specs.Name.{name_cmp}
use Rattle.mvs_model.specs.NextName.{is_before, IsAfter, IsFirstOf}
use Rattle.mvs_model.proofs.Orders.{name_cmp_total}

less : (r : Ordering) → is_lt r ≡ true → r ≡ Less
less Less e = refl
less Equal e = absurd (let f : false ≡ true = e in cc)
less Greater e = absurd (let f : false ≡ true = e in cc)

not_both : (b : Bool) → b ≡ true → b ≡ false → ⊥
not_both b t f = let e : true ≡ false = sym t ∙ f in cc

-- one that is before another which is before a third is before the third
pub before_trans : (a b c : Name) → is_before a b ≡ true → is_before b c ≡ true → is_before a c ≡ true
before_trans a b c s t = ap is_lt (name_cmp_total.trans a b c (less (name_cmp a b) s) (less (name_cmp b c) t))

by_bool : (b : Bool) → (b ≡ true) ⊎ (b ≡ false)
by_bool true = inl refl
by_bool false = inr refl

-- no name is before itself
pub before_itself : (a : Name) → is_before a a ≡ false
before_itself a = elim (by_bool (is_before a a)) [
  | inl t ↦ (let e : Less ≡ Greater = sym (less (name_cmp a a) t) ∙ name_cmp_total.antisymm a a ∙ ap (λ r. Rattle.std.specs.Ordering.ordering_reverse r) (less (name_cmp a a) t) in cc)
  | inr f ↦ f
]

after_or_not : (name : Name) (given : Option Name) → IsAfter name given ⊎ (IsAfter name given → ⊥)
after_or_not name None = inl _
after_or_not name (Some g) = elim (by_bool (is_before g name)) [
  | inl t ↦ inl t
  | inr f ↦ inr (λ t. not_both (is_before g name) t f)
]

module _ (found : Option Name) (name : Name) (given first : Option Name) (h : IsFirstOf found name given first) where
  -- the first is what was found, or the name
  pub first_from : (f : Name) → first ≡ Some f → (found ≡ Some f) ⊎ ((name ≡ f) × IsAfter name given)
  first_from f e = elim (after_or_not name given) [
    | inr passed ↦ inl (sym (h.passed passed) ∙ e)
    | inl after ↦ by found refl after
  ] where
    named : first ≡ Some name → name ≡ f
    named e2 = let same : Some name ≡ Some f = sym e2 ∙ e in cc

    by : (o : Option Name) → found ≡ o → IsAfter name given → (found ≡ Some f) ⊎ ((name ≡ f) × IsAfter name given)
    by None is after = inr (named (h.only after is), after)
    by (Some g) is after = elim (by_bool (is_before name g)) [
      | inl t ↦ inr (named (h.sooner g after is t), after)
      | inr n ↦ inl (sym (h.later g after is n) ∙ e)
    ]

  -- the name is not before the first, if it is after the given one
  pub first_least : IsAfter name given → (f : Name) × (first ≡ Some f) × (is_before name f ≡ false)
  first_least after = by found refl where
    by : (o : Option Name) → found ≡ o → (f : Name) × (first ≡ Some f) × (is_before name f ≡ false)
    by None is = (name, h.only after is, before_itself name)
    by (Some g) is = elim (by_bool (is_before name g)) [
      | inl t ↦ (name, h.sooner g after is t, before_itself name)
      | inr n ↦ (g, h.later g after is n ∙ is, n)
    ]

  -- what is not before the one that was found is not before the first
  pub first_lower : (other f : Name) → found ≡ Some f → is_before other f ≡ false → (g : Name) × (first ≡ Some g) × (is_before other g ≡ false)
  first_lower other f is low = elim (after_or_not name given) [
    | inr passed ↦ (f, h.passed passed ∙ is, low)
    | inl after ↦ elim (by_bool (is_before name f)) [
      | inl t ↦ (
        name,
        h.sooner f after is t,
        elim (by_bool (is_before other name)) [
          | inl s ↦ absurd (not_both (is_before other f) (before_trans other name f s t) low)
          | inr n ↦ n
        ],
      )
      | inr n ↦ (f, h.later f after is n ∙ is, low)
    ]
  ]
