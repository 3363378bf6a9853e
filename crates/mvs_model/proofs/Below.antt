-- Tests at the numbers below a bound: that each passes, that some passes, and how many pass.
use Rattle.std.proofs.Common.{◌≡◌, ℕ, zero, suc, ◌+◌, ◌-◌, ◌<◌, ◌≤◌, ◌⊎◌, inl, inr, Bool, true, false, cond, arith, refl, sym, ap, ◌∙◌, ◌||◌, ◌&&◌, nat_le, Decides}
use Rattle.std.proofs.lemmas.Bool.{cases_lt}
use Rattle.std.proofs.lemmas.Bool.Decides.{nat_tests, Decides-below_and, Decides-below_or}
use Rattle.mvs_model.specs.Finite.{all_below, any_below, count_below}

all_decides : (test : ℕ → Bool) (n : ℕ) → Decides (all_below test n) ((i : ℕ) → i < n → test i ≡ true)
unfolding all_below
all_decides test = Decides-below_and test (λ i. test i ≡ true) (all_below test) (λ i. (λ e. e, λ e. e)) refl (λ n. refl)

any_decides : (test : ℕ → Bool) (n : ℕ) → Decides (any_below test n) ((i : ℕ) × (i < n) × (test i ≡ true))
unfolding any_below
any_decides test = Decides-below_or test (λ i. test i ≡ true) (any_below test) (λ i. (λ e. e, λ e. e)) refl (λ n. refl)

-- each number below a bound passes a test
pub each_below : (test : ℕ → Bool) (n : ℕ) → ((i : ℕ) → i < n → test i ≡ true) → all_below test n ≡ true
each_below test n h = (all_decides test n).1 h

pub below_each : (test : ℕ → Bool) (n : ℕ) → all_below test n ≡ true → (i : ℕ) → i < n → test i ≡ true
below_each test n e = (all_decides test n).0 e

-- some number below a bound passes a test
pub some_below : (test : ℕ → Bool) (n i : ℕ) → i < n → test i ≡ true → any_below test n ≡ true
some_below test n i l e = (any_decides test n).1 (i, l, e)

pub below_some : (test : ℕ → Bool) (n : ℕ) → any_below test n ≡ true → (i : ℕ) × (i < n) × (test i ≡ true)
below_some test n e = (any_decides test n).0 e

-- ---- how many pass

pub count_none : (n : ℕ) (f : ℕ → Bool) → ((d : ℕ) → d < n → f d ≡ false) → count_below n f ≡ 0
unfolding count_below
count_none zero f h = refl
count_none (suc n) f h = let e : count_below n f ≡ 0 = count_none n f (λ d l. h d (omega (arith, l))) in ap (λ b. cond b 1 0 + count_below n f) (h n (omega arith)) ∙ (let z : 0 + count_below n f ≡ 0 = omega (arith, e) in z)

pub count_same : (n : ℕ) (f g : ℕ → Bool) → ((d : ℕ) → d < n → f d ≡ g d) → count_below n f ≡ count_below n g
unfolding count_below
count_same zero f g h = refl
count_same (suc n) f g h = λ i. cond (h n (omega arith) i) 1 0 + count_same n f g (λ d l. h d (omega (arith, l))) i

pub one_of : (a b : Bool) → (a ≡ true → b ≡ true → ⊥) → cond (a || b) 1 0 ≡ cond a 1 0 + cond b 1 0
one_of a b h1 = grind (arith, nat_tests)

sums : (x y z a b : ℕ) → x ≡ y + z → (a b c : ℕ) → a ≡ b + c → x + a ≡ (y + b) + (z + c)
sums x y z _ _ e a b c f = omega (arith, e, f)

-- of two tests that no number passes both
pub count_or : (n : ℕ) (f g : ℕ → Bool) → ((d : ℕ) → f d ≡ true → g d ≡ true → ⊥) → count_below n (λ d. f d || g d) ≡ count_below n f + count_below n g
unfolding count_below
count_or zero f g h = refl
count_or (suc n) f g h = sums (cond (f n || g n) 1 0) (cond (f n) 1 0) (cond (g n) 1 0) 0 0 (one_of (f n) (g n) (h n)) (count_below n (λ d. f d || g d)) (count_below n f) (count_below n g) (count_or n f g h)

-- past a bound from which on none passes
pub count_past : (m n : ℕ) (f : ℕ → Bool) → ((d : ℕ) → n ≤ d → f d ≡ false) → n ≤ m → count_below m f ≡ count_below n f
unfolding count_below
count_past zero n f h l = ap (λ x. count_below x f) (let e : 0 ≡ n = omega (arith, l) in e)
count_past (suc m) n f h l = at (cases_lt m n) (λ less. count_past m n f h less) where
  at : (m < n) ⊎ (n ≤ m) → (n ≤ m → count_below m f ≡ count_below n f) → count_below (suc m) f ≡ count_below n f
  at (inl less) rest = ap (λ x. count_below x f) (let e : suc m ≡ n = omega (arith, l, less) in e)
  at (inr more) rest = let e : count_below m f ≡ count_below n f = rest more in ap (λ b. cond b 1 0 + count_below m f) (h m more) ∙ (let z : 0 + count_below m f ≡ count_below n f = omega (arith, e) in z)

pub count_more : (n : ℕ) (f : ℕ → Bool) → count_below (suc n) f ≡ cond (f n) 1 0 + count_below n f
unfolding count_below
count_more n f = refl

-- moved up
pub count_moved : (b n : ℕ) (w : ℕ → Bool) → count_below (b + n) (λ d. nat_le b d && w (d - b)) ≡ count_below n w
count_moved b zero w = ap (λ x. count_below x (λ d. nat_le b d && w (d - b))) (let e : b + 0 ≡ b = omega arith in e) ∙ count_none b (λ d. nat_le b d && w (d - b)) (λ d l. ap (λ c. c && w (d - b)) (let e : nat_le b d ≡ false = grind (arith, nat_tests) in e)) ∙ sym (count_zero w) where
  count_zero : (w : ℕ → Bool) → count_below zero w ≡ 0
  count_zero w = count_none zero w (λ d l. absurd (omega (arith, l)))
count_moved b (suc n) w =
    ap (λ x. count_below x (λ d. nat_le b d && w (d - b))) (let e : b + suc n ≡ suc (b + n) = omega arith in e)
    ∙ count_more (b + n) (λ d. nat_le b d && w (d - b))
    ∙ (λ i. cond ((let t : nat_le b (b + n) ≡ true = grind (arith, nat_tests) in t) i && w ((let z : b + n - b ≡ n = omega arith in z) i)) 1 0 + count_moved b n w i)
    ∙ sym (count_more n w)

pub count_all : (n : ℕ) (f : ℕ → Bool) → ((d : ℕ) → d < n → f d ≡ true) → count_below n f ≡ n
unfolding count_below
count_all zero f h = refl
count_all (suc n) f h = (λ i. cond (h n (omega arith) i) 1 0 + count_all n f (λ d l. h d (omega (arith, l))) i) ∙ (let z : 1 + n ≡ suc n = omega arith in z)
