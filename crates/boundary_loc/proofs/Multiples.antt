-- Multiples of a unit, and bytes that do not pass one.
use Rattle.std.proofs.Common.{◌≡◌, ℕ, ◌+◌, ◌-◌, ◌*◌, ◌/◌, ◌%◌, ◌^◌, ◌<◌, ◌≤◌, ◌↔◌, sym, ap, ◌∙◌, inl, inr, arith, div-add-mod', mul-le-mul_right}
use Rattle.std.proofs.lemmas.Bool.{cases_lt}
use Rattle.std.proofs.lemmas.Nat.{mod-pow-add}
use Rattle.std.proofs.Math.Nat.{mul-mod_left}
use Rattle.std.proofs.lemmas.Bool.Decides.{nat_tests}
use Rattle.boundary_loc.specs.Boundary.{IsWithin, IsLeastMultiple, IsGreatestMultiple}

-- a number is below the next multiple, and not below its own
below_next : (x u : ℕ) → 0 < u → x < x / u * u + u
below_next x u some = let e : x / u * u + x % u ≡ x = div-add-mod' x u in let r : x % u < u = omega arith in omega arith

quotient_below : (x u : ℕ) → x / u * u ≤ x
quotient_below x u = let e : x / u * u + x % u ≡ x = div-add-mod' x u in omega arith

quotient_le : (q u m : ℕ) → q * u < m * u + u → q ≤ m
quotient_le q u m h = elim (cases_lt m q) [ inr low ↦ low | inl high ↦ let s : m + 1 ≤ q = omega arith in let le : (m + 1) * u ≤ q * u = mul-le-mul_right u s in absurd (omega arith) ]

quotient_from : (x t u : ℕ) → 0 < u → t * u ≤ x → t ≤ x / u
quotient_from x t u some h = quotient_le t u (x / u) (let n : x < x / u * u + u = below_next x u some in omega arith)

quotient_to : (x t u : ℕ) → x < t * u + u → x / u ≤ t
quotient_to x t u h = quotient_le (x / u) u t (let b : x / u * u ≤ x = quotient_below x u in omega arith)

quotient_mono : (x y u : ℕ) → 0 < u → x ≤ y → x / u ≤ y / u
quotient_mono x y u some le = quotient_from y (x / u) u some (let b : x / u * u ≤ x = quotient_below x u in omega arith)

multiple : (x u : ℕ) → x % u ≡ 0 → x / u * u ≡ x
multiple x u e = let p : x / u * u + x % u ≡ x = div-add-mod' x u in omega arith

pub rounded : (n u : ℕ) → 0 < u → IsLeastMultiple u n ((n + u - 1) / u * u)
rounded n u some = grind (arith, nat_tests, below_next, quotient_below, quotient_le, multiple, mul-mod_left)

pub rounded_down : (n u : ℕ) → 0 < u → IsGreatestMultiple u n (n / u * u)
rounded_down n u some = grind (arith, nat_tests, quotient_below, quotient_mono, multiple, mul-mod_left)

-- a multiple of a power of two is one of each lower power
pub lower_power : (n k s : ℕ) → k ≤ s → n % 2 ^ s ≡ 0 → n % 2 ^ k ≡ 0
lower_power n k s low zero_rest =
    let is : s - k + k ≡ s = omega arith in
    let e : (n / 2 ^ k % 2 ^ (s - k)) * 2 ^ k + n % 2 ^ k ≡ 0 = sym (mod-pow-add n (s - k) k) ∙ ap (λ j. n % 2 ^ j) is ∙ zero_rest in
    sum_zero _ _ e where
      sum_zero : (a b : ℕ) → a + b ≡ 0 → b ≡ 0
      sum_zero a b e = omega arith

-- the bytes up to the next multiple of the bound are those that do not pass one
room_within : (b a n : ℕ) → 0 < b → 0 < n → (n ≤ b - a % b) ↔ IsWithin b n a
room_within b a n some bytes = grind (arith, nat_tests, below_next, quotient_to, quotient_mono)

-- bytes that do not pass a multiple are no more than the bound, and from a multiple on each such number is right
pub within_short : (b a n : ℕ) → 0 < b → 0 < n → IsWithin b n a → n ≤ b
within_short b a n some bytes same = let room : n ≤ b - a % b = (room_within b a n some bytes).1 same in omega arith

pub within_multiple : (b a n : ℕ) → 0 < b → 0 < n → a % b ≡ 0 → n ≤ b → IsWithin b n a
within_multiple b a n some bytes on short = (room_within b a n some bytes).0 (omega arith)

-- between two multiples, a place of bytes that lies within the bound may begin earlier
pub within_earlier : (b first m n q : ℕ) → 0 < b → 0 < n → IsLeastMultiple b (first + 1) m → first ≤ q → q < m → IsWithin b n q → IsWithin b n first
within_earlier b first m n q some bytes next from before same =
    let below : first < first / b * b + b = below_next first b some in
    let m_low : m ≤ (first / b + 1) * b = next.least ((first / b + 1) * b) (omega arith) (mul-mod_left (first / b + 1) b) in
    let q_low : first / b ≤ q / b = quotient_mono first q b some from in
    let q_high : q / b ≤ first / b = quotient_to q (first / b) b (omega arith) in
    let low : first / b ≤ (first + n - 1) / b = quotient_mono first (first + n - 1) b some (omega arith) in
    let high : (first + n - 1) / b ≤ (q + n - 1) / b = quotient_mono (first + n - 1) (q + n - 1) b some (omega arith) in
    omega (arith, same)

-- bytes whose last multiple of the bound is no later than their first do not pass one
pub within_unpassed : (b n last passed : ℕ) → 0 < b → 0 < n → IsGreatestMultiple b (last + n - 1) passed → passed ≤ last → IsWithin b n last
within_unpassed b n last passed some bytes is low =
    let end : passed / b * b ≡ passed = multiple passed b is.multiple in
    let up : last / b ≤ (last + n - 1) / b = quotient_mono last (last + n - 1) b some (omega arith) in
    let most : (last + n - 1) / b * b ≤ passed = is.greatest ((last + n - 1) / b * b) (quotient_below (last + n - 1) b) (mul-mod_left ((last + n - 1) / b) b) in
    let down : (last + n - 1) / b ≤ last / b = quotient_from last ((last + n - 1) / b) b some (omega arith) in
    omega arith

-- bytes that end at or before a multiple and begin no further before it than the bound lie within the bound
pub within_before : (b n m r : ℕ) → 0 < b → 0 < n → m % b ≡ 0 → b ≤ m → m - b ≤ r → r + n ≤ m → IsWithin b n r
within_before b n m r h1 h2 h3 h4 h5 h6 = grind (arith, nat_tests, quotient_from, quotient_to, quotient_mono, multiple)

-- bytes from before a multiple to after it pass it
pub passes : (b n m q : ℕ) → 0 < b → m % b ≡ 0 → q < m → m ≤ q + n - 1 → IsWithin b n q → ⊥
passes b n m q h1 h2 h3 h4 h5 = grind (arith, nat_tests, quotient_below, quotient_mono, multiple)
