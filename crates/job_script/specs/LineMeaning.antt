-- What a statement says by its operands.
use Rattle.std.specs.Prelude.{◌≡◌, ℕ, List, Bool, true, false, ◌||◌, [], ◌∷◌, bytes_eq, codes, if◌then◌else◌, Option, Some, None, Result, Ok, Err, length}
use Rattle.std.specs.List.{list_all}
use Rattle.mvs_model.specs.declared.name.Name.{Name}
use Rattle.mvs_model.specs.declared.want.Loc.{Loc}
use Rattle.mvs_model.specs.declared.want.Loc.TheVariants as loc
use Rattle.mvs_model.specs.declared.line.Fault.{Fault}
use Rattle.mvs_model.specs.declared.line.Fault.TheVariants.{MissingOperand}
use Rattle.mvs_model.specs.declared.line.Line.{Line}
use Rattle.mvs_model.specs.declared.line.Line.TheVariants as line
use Rattle.mvs_model.specs.declared.line.Statement.{Statement}
use Rattle.mvs_model.specs.Reading.{is_list, items, is_number, is_in_range, is_name, is_address, is_address_in_range, is_hex_digit}

-- the line of a task with a statement, where all that it needs is there
abbrev pub line_of_task : Name → Option Statement → Result Line Fault
line_of_task task None = Err MissingOperand
line_of_task task (Some s) = Ok (line.Statement task s)

-- what is answered with a line that is filled where there is no fault
abbrev pub filled : {X : Type 0} → Line → Result X Fault → Result Line Fault
filled l (Ok x) = Ok l
filled l (Err fault) = Err fault

-- What holds of a text, where there is one.
abbrev pub Holds : (List ℕ → Type 0) → Option (List ℕ) → Type 0
Holds P o = (text : List ℕ) → o ≡ Some text → P text

-- a number in its range, a name, an address in its range, two hexadecimal digits
pub record IsRanged (least most : ℕ) (text : List ℕ) : Type 0 where
  pub digits : is_number text ≡ true
  pub range : is_in_range least most text ≡ true

abbrev pub IsNamed : List ℕ → Type 0
IsNamed text = is_name text ≡ true

pub record IsLocated (text : List ℕ) : Type 0 where
  pub address : is_address text ≡ true
  pub range : is_address_in_range text ≡ true

pub record IsByte (text : List ℕ) : Type 0 where
  pub two : length text ≡ 2
  pub digits : list_all is_hex_digit text ≡ true

-- numbers that can be given or shared
pub record AreGifts (items : List (List ℕ)) : Type 0 where
  pub digits : list_all is_number items ≡ true
  pub range : list_all (is_in_range 1 127) items ≡ true

abbrev pub if_list : Bool → List ℕ → Type 0
if_list true text = AreGifts (items text)
if_list false text = AreGifts (text ∷ [])

-- a number or a list of them, where there is one
abbrev pub AreGiven : Option (List ℕ) → Type 0
AreGiven None = Unit {0}
AreGiven (Some text) = if_list (is_list text) text

-- the location that a word names
abbrev pub loc_named : List ℕ → Loc
loc_named text = if bytes_eq text (codes "BELOW") || bytes_eq text (codes "24") then loc.Below else (if bytes_eq text (codes "ANY") || bytes_eq text (codes "31") then loc.Any else loc.Res)
