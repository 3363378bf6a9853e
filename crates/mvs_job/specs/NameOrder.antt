-- Names in the order of the lines that set them, among them those that a later line set again.
use Rattle.std.specs.Prelude.{◌≡◌, ℕ, nat_eq, Bool, false, List, Option, Some, None, if◌then◌else◌}
use Rattle.std.specs.FinMap.{get}
use Rattle.std.specs.List.{Contains}
use Rattle.std.specs.List.Sorted.{IsNonDecreasingBy}
use Rattle.std.specs.Option.{option_and_then}
use Rattle.mvs_model.specs.declared.name.Name.{Name}
use Rattle.mvs_model.specs.Job.{JobValue}
use Rattle.mvs_job.specs.declared.name_origins.NamedAddress.{NamedAddress}
use Rattle.mvs_job.specs.NamedAddress.{NameOrigins, naming_at}

-- The numbers of the lines do not fall.
abbrev pub IsInOrder : List (Name × ℕ) → Type 0
IsInOrder order = IsNonDecreasingBy (λ e. e.1) order

-- Each name is in the order with the line that set it last.
abbrev pub HasLatest : NameOrigins → List (Name × ℕ) → Type 0
HasLatest set order = (name : Name) (number : ℕ) → get set name ≡ Some number → Contains order (name, number)

-- whether this line set the name last
abbrev pub is_at : ℕ → Option ℕ → Bool
is_at number None = false
is_at number (Some latest) = nat_eq latest number

abbrev pub is_latest : NameOrigins → Name × ℕ → Bool
is_latest set e = is_at e.1 (get set e.0)

-- what a name says of an address, if this line set it last and it has the address in its place
abbrev pub said_by : JobValue → NameOrigins → ℕ → Name × ℕ → Option NamedAddress
said_by job set a e = if is_latest set e then naming_at job a e else None
