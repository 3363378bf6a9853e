-- Addresses at which a length meets the boundaries.
use Rattle.std.specs.Prelude.{◌≡◌, ℕ, ◌+◌, ◌-◌, ◌/◌, ◌%◌, ◌^◌, ◌<◌, ◌≤◌, ◌⊎◌, IfSome, Option}
use Rattle.mvs_model.specs.declared.want.Side.{Side}
use Rattle.mvs_model.specs.declared.want.Side.TheVariants.{Below}
use Rattle.mvs_model.specs.Numbers.{above_begins}

-- n bytes from an address on do not pass a multiple of the bound: the first and the last have one quotient
abbrev pub IsWithin : ℕ → ℕ → ℕ → Type 0
IsWithin bound n a = a / bound ≡ (a + n - 1) / bound

-- n bytes from an address on end in time and do not cross the containing boundary
abbrev pub Fits : Option ℕ → ℕ → ℕ → ℕ → Type 0
Fits within end n a = (a + n ≤ end) × IfSome within (λ k. IsWithin (2 ^ k) n a)

-- The lowest multiple of the unit from a number on.
pub record IsLeastMultiple (unit from a : ℕ) : Type 0 where
  pub after : from ≤ a
  pub multiple : a % unit ≡ 0
  pub least : (q : ℕ) → from ≤ q → q % unit ≡ 0 → a ≤ q

-- The highest multiple of the unit up to a number.
pub record IsGreatestMultiple (unit to a : ℕ) : Type 0 where
  pub before : a ≤ to
  pub multiple : a % unit ≡ 0
  pub greatest : (q : ℕ) → q ≤ to → q % unit ≡ 0 → q ≤ a

-- The highest start up to the last one from which n bytes do not cross the containing boundary.
pub record IsLastStart (start : ℕ) (within : Option ℕ) (n last at : ℕ) : Type 0 where
  pub before : at ≤ last
  pub on_start : at % 2 ^ start ≡ 0
  pub lies_within : IfSome within (λ k. IsWithin (2 ^ k) n at)
  pub highest : (q : ℕ) → q ≤ last → q % 2 ^ start ≡ 0 → IfSome within (λ k. IsWithin (2 ^ k) n q) → q ≤ at

-- Whatever fits at a start from the first on, fits at the first start or at this next one, which is then no higher.
pub record IsNextStart (start : ℕ) (within : Option ℕ) (first next : ℕ) : Type 0 where
  pub after : first ≤ next
  pub on_start : next % 2 ^ start ≡ 0
  pub enough : (end n q : ℕ) → 0 < n → first ≤ q → q % 2 ^ start ≡ 0 → Fits within end n q → Fits within end n first ⊎ ((next ≤ q) × Fits within end n next)

-- an area on this side may begin at the address
abbrev pub Allows : Side → ℕ → Type 0
Allows side a = side ≡ Below → a < above_begins
