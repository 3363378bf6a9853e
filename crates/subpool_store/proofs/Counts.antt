-- How many numbers below a bound pass a test.
use Rattle.std.proofs.Common.{◌≡◌, ℕ, zero, suc, ◌+◌, ◌<◌, ◌≤◌, Bool, true, false, cond, refl, ap, ◌∙◌, arith}
use Rattle.mvs_model.specs.Finite.{count_below}
use Rattle.mvs_model.proofs.Below.{count_none}

pub count_most : (n : ℕ) (f : ℕ → Bool) → count_below n f ≤ n
unfolding count_below
count_most zero f = omega arith
count_most (suc n) f = let rest : count_below n f ≤ n = count_most n f in let one : cond (f n) 1 0 ≤ 1 = at (f n) in omega arith where
  at : (b : Bool) → cond b 1 0 ≤ 1
  at true = omega arith
  at false = omega arith

-- the count of two parts, one after the other
pub count_split : (n a b : ℕ) (f : ℕ → Bool) → n ≡ a + b → count_below n f ≡ count_below a f + count_below b (λ i. f (a + i))
unfolding count_below
count_split n a zero f is = ap (λ k. count_below k f) (let e : n ≡ a = omega arith in e) ∙ (let e : count_below a f ≡ count_below a f + 0 = omega arith in e)
count_split n a (suc b) f is =
    let next : n ≡ suc (a + b) = omega arith in
    let rest : count_below (a + b) f ≡ count_below a f + count_below b (λ i. f (a + i)) = count_split (a + b) a b f refl in
    ap (λ k. count_below k f) next ∙ (let e : cond (f (a + b)) 1 0 + count_below (a + b) f ≡ count_below a f + (cond (f (a + b)) 1 0 + count_below b (λ i. f (a + i))) = omega arith in e)

-- the count of a middle part, where nothing else passes
pub count_middle : (n x y z : ℕ) (f : ℕ → Bool) → n ≡ x + (y + z) → ((i : ℕ) → i < x → f i ≡ false) → ((i : ℕ) → x + y ≤ i → i < n → f i ≡ false) → count_below n f ≡ count_below y (λ i. f (x + i))
count_middle n x y z f is before trailing =
    let one : count_below n f ≡ count_below x f + count_below (y + z) (λ i. f (x + i)) = count_split n x (y + z) f is in
    let two : count_below (y + z) (λ i. f (x + i)) ≡ count_below y (λ i. f (x + i)) + count_below z (λ i. f (x + (y + i))) = count_split (y + z) y z (λ i. f (x + i)) refl in
    let none : count_below x f ≡ 0 = count_none x f before in
    let rest : count_below z (λ i. f (x + (y + i))) ≡ 0 = count_none z (λ i. f (x + (y + i))) (λ i low. trailing (x + (y + i)) (omega arith) (omega arith)) in
    omega arith
