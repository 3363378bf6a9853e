-- Changes of finite maps, key by key, and tests below a bound.
use Rattle.std.specs.Prelude.{◌≡◌, ℕ, zero, suc, ◌+◌, Bool, ◌&&◌, ◌||◌, true, false, Option, Some, None, if◌then◌else◌}

-- new is old, but with v at each key that passes the test
abbrev pub Changes : {K X : Type 0} → (K → Option X) → (K → Bool) → Option X → (K → Option X) → Type 0
Changes {K = K} old test v new = (k : K) → new k ≡ (if test k then v else old k)

-- the value where it passes the test
abbrev pub kept : {X : Type 0} → (X → Bool) → Option X → Option X
kept test None = None
kept test (Some x) = if test x then Some x else None

-- new is old without the entries that fail the test
abbrev pub Keeps : {K X : Type 0} → (K → Option X) → (K → X → Bool) → (K → Option X) → Type 0
Keeps {K = K} old test new = (k : K) → new k ≡ kept (test k) (old k)

-- whether there is a value that passes the test
abbrev pub has : {X : Type 0} → (X → Bool) → Option X → Bool
has test None = false
has test (Some x) = test x

-- each number below n passes the test
unfoldable pub all_below : (ℕ → Bool) → ℕ → Bool
all_below test zero = true
all_below test (suc n) = test n && all_below test n

-- some number below n passes the test
unfoldable pub any_below : (ℕ → Bool) → ℕ → Bool
any_below test zero = false
any_below test (suc n) = test n || any_below test n

-- how many numbers below n pass the test
unfoldable pub count_below : ℕ → (ℕ → Bool) → ℕ
count_below zero test = 0
count_below (suc n) test = (if test n then 1 else 0) + count_below n test

-- the sum of a function at the numbers below n
unfoldable pub total_below : ℕ → (ℕ → ℕ) → ℕ
total_below zero f = 0
total_below (suc n) f = f n + total_below n f
