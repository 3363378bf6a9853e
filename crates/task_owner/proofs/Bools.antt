-- Tests, and what is kept of a value by one.
use Rattle.std.proofs.Common.{◌≡◌, Bool, true, false, cond, ◌||◌, Option, Some, None, sym, ap, refl}
use Rattle.mvs_model.specs.Finite.{kept}

pub or_false : (b : Bool) → (b || false) ≡ b
or_false true = refl
or_false false = refl

-- a value that is not kept fails it
pub dropped_fails : {X : Type 0} (f : X → Bool) (x : X) → kept f (Some x) ≡ None → f x ≡ false
dropped_fails {X} f x e = by (f x) refl e where
  by : (b : Bool) → f x ≡ b → cond b (Some x) None ≡ None → f x ≡ false
  by true t h = absurd (let g : ◌≡◌ {A = Option X} None (Some x) = sym h in cc)
  by false t h = t

-- a value that passes is kept
pub passing_kept : {X : Type 0} (f : X → Bool) (x : X) → f x ≡ true → kept f (Some x) ≡ Some x
passing_kept f x e = ap (λ b. cond b (Some x) None) e

-- two tests that agree on the value keep it alike
pub same_kept : {X : Type 0} (f g : X → Bool) (o : Option X) → ((x : X) → o ≡ Some x → f x ≡ g x) → kept f o ≡ kept g o
same_kept f g None h = refl
same_kept f g (Some x) h = ap (λ b. cond b (Some x) None) (h x refl)

-- a test that nothing passes keeps nothing, and one that all passes keeps all
pub none_kept : {X : Type 0} (o : Option X) → kept (λ _. false) o ≡ None
none_kept None = refl
none_kept (Some x) = refl

pub all_kept : {X : Type 0} (o : Option X) → kept (λ _. true) o ≡ o
all_kept None = refl
all_kept (Some x) = refl
