-- What is so of each number from one up to another, and of one more.
use Rattle.std.proofs.Common.{◌≡◌, ℕ, ◌+◌, ◌<◌, ◌≤◌, arith, subst, sym, inl, inr}
use Rattle.std.proofs.Math.Nat.{eq-or-lt_of_le}

pub one_more : (P : ℕ → Type 0) (from n : ℕ) → ((d : ℕ) → from ≤ d → d < n → P d) → P n → (d : ℕ) → from ≤ d → d < n + 1 → P d
one_more P from n before at d low high =
    let least : d ≤ n = omega arith in
    elim (eq-or-lt_of_le least) as (λ _. P d) [ inl same ↦ subst P (sym same) at | inr less ↦ before d low less ]

-- One number alone.
pub only_one : (P : ℕ → Type 0) (n : ℕ) → P n → (d : ℕ) → n ≤ d → d < n + 1 → P d
only_one P n at d low high = let same : n ≡ d = omega arith in subst P same at
