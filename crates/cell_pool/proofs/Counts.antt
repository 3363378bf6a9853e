-- How many numbers below a bound pass a test.
use Rattle.std.proofs.Common.{◌≡◌, ℕ, zero, suc, ◌+◌, ◌<◌, ◌≤◌, ◌≢◌, Bool, true, false, cond, refl, sym, ap, ◌∙◌, inl, inr, arith}
use Rattle.std.proofs.lemmas.Bool.{cases_eq}
use Rattle.mvs_model.specs.Finite.{count_below}
use Rattle.subpool_store.proofs.Counts.{count_most}
use Rattle.mvs_model.proofs.Below.{count_same}

-- one number more passes
plus : (b c : Bool) (x y : ℕ) → b ≡ true → c ≡ false → x ≡ y → cond b 1 0 + x ≡ cond c 1 0 + y + 1
plus true c x y e f g = ap (λ k. 1 + k) g ∙ (let h : 1 + y ≡ 0 + y + 1 = omega arith in h) ∙ ap (λ b. cond b 1 0 + y + 1) (sym f)
plus false c x y e f g = absurd (let h : false ≡ true = e in cc)

carry : (b c : Bool) (x y : ℕ) → b ≡ c → x ≡ y + 1 → cond b 1 0 + x ≡ cond c 1 0 + y + 1
carry b c x y e f = ap (λ k. cond b 1 0 + k) f ∙ (let h : cond b 1 0 + (y + 1) ≡ cond b 1 0 + y + 1 = omega arith in h) ∙ ap (λ k. cond k 1 0 + y + 1) e

pub count_one_more : (i : ℕ) (n : ℕ) (f g : ℕ → Bool) → i < n → f i ≡ false → g i ≡ true → ((j : ℕ) → j ≢ i → g j ≡ f j) → count_below n g ≡ count_below n f + 1
unfolding count_below
count_one_more i zero f g l ef eg same = absurd (omega arith)
count_one_more i (suc n) f g l ef eg same = elim (cases_eq n i) [
  | inl e ↦ plus (g n) (f n) (count_below n g) (count_below n f) (ap g e ∙ eg) (ap f e ∙ ef) (count_same n g f (λ j low. same j (omega arith)))
  | inr ne ↦ carry (g n) (f n) (count_below n g) (count_below n f) (same n ne) (count_one_more i n f g (omega arith) ef eg same)
]

-- a number that passes is counted
more : (b : Bool) (x : ℕ) → 1 ≤ x → 1 ≤ cond b 1 0 + x
more true x l = omega arith
more false x l = omega arith

one : (b : Bool) (x : ℕ) → b ≡ true → 1 ≤ cond b 1 0 + x
one true x e = omega arith
one false x e = absurd (let f : false ≡ true = e in cc)

pub count_some : (n i : ℕ) (f : ℕ → Bool) → i < n → f i ≡ true → 1 ≤ count_below n f
unfolding count_below
count_some zero i f l e = absurd (omega arith)
count_some (suc n) i f l e = elim (cases_eq n i) [
  | inl s ↦ one (f n) (count_below n f) (ap f s ∙ e)
  | inr ne ↦ more (f n) (count_below n f) (count_some n i f (omega arith) e)
]

pub count_full : (n i : ℕ) (f : ℕ → Bool) → i < n → n ≤ count_below n f → f i ≡ true
unfolding count_below
count_full zero i f l h = absurd (omega arith)
count_full (suc n) i f l h = at (f n) refl h (λ m k. count_full n i f m k) where
  at : (b : Bool) → f n ≡ b → suc n ≤ cond b 1 0 + count_below n f → (i < n → n ≤ count_below n f → f i ≡ true) → f i ≡ true
  at false e k rest = absurd (let m : count_below n f ≤ n = count_most n f in omega arith)
  at true e k rest = elim (cases_eq n i) [
    | inl s ↦ ap f (sym s) ∙ e
    | inr ne ↦ rest (omega arith) (omega arith)
  ]
