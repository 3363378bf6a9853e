-- What of a line is to blame for a fault. (this project's choice)
use Rattle.std.specs.Prelude.{◌≡◌, ◌≤◌, ℕ, ◌+◌, ◌-◌, ◌&&◌, not, nat_lt, Bool, true, false, if◌then◌else◌, List, [], ◌∷◌, ◌++◌, length, take, drop, flat_map, min, max, Some, None, bytes_eq}
use Rattle.std.specs.List.{list_any}
use Rattle.mvs_model.specs.declared.line.Fault.{Fault}
use Rattle.mvs_model.specs.declared.line.Fault.TheVariants.{Repeated}
use Rattle.mvs_model.specs.Grammar.{Row}
use Rattle.mvs_model.specs.Reading.{operands_after_form, first_of, has_key, is_empty, key_of, operand_checks, operands_of, text_of, with_left, words}
use Rattle.job_script.specs.Parted.{starts_word}
use Rattle.diagnosis.specs.declared.columns.Columns.{Columns}

-- What follows two words of a line and a number of bytes, from its first byte on that is not a blank: the operands, and a remark.
pub record IsField (bytes : List ℕ) (at : ℕ) (field : List ℕ) : Type 0 where
  pub front : List ℕ
  pub place : length front ≡ at
  pub parts : bytes ≡ front ++ field
  pub words : words field ≡ drop 2 (words bytes)
  pub start : starts_word field ≡ true

-- the number of bytes of some operands, with a comma after each
abbrev pub before : List (List ℕ) → ℕ
before [] = 0
before (operand ∷ operands) = length operand + 1 + before operands

-- the form before the operands, if the row has one
abbrev pub form_before : Row → List (List ℕ) → List (List ℕ)
form_before row operands = if is_empty row.forms then [] else take 1 operands

-- After operands that are all accepted comes one that is not: the first one for which a check fails.
pub record IsRefused (row : Row) (operands : List (List ℕ)) (at : ℕ) (operand : List ℕ) (fault : Fault) : Type 0 where
  pub left : List (List ℕ)
  pub right : List (List ℕ)
  pub parts : operands ≡ left ++ operand ∷ right
  pub taken : first_of (flat_map (operand_checks row) (with_left left)) ≡ None
  pub refused : first_of (operand_checks row (left, operand)) ≡ Some fault
  pub place : at ≡ before left

-- whether the value is wrong: that of a keyword that the row has, and that was not given before
abbrev pub is_again : Fault → Bool
is_again Repeated = true
is_again fault = false

abbrev pub is_value : Row → Fault → List ℕ → Bool
is_value row fault operand = has_key operand && list_any (λ k. bytes_eq k.key (key_of operand)) row.keywords && not (is_again fault)

-- a number of bytes of an operand, from an offset on: its value, or all of it
abbrev pub part_of : Row → Fault → List ℕ → ℕ × ℕ
part_of row fault operand = if is_value row fault operand then (length (key_of operand) + 1, length (text_of operand)) else (0, length operand)

-- the columns of a number of bytes of a line of this length, from a place on; if there are none, the byte there, or the last one
abbrev pub columns_of : ℕ → ℕ → ℕ → Columns
columns_of size at count = if nat_lt at size then record { first = at + 1; last = at + min (max 1 count) (size - at) } else record { first = size; last = size }

-- The columns are those of the first operand that is refused.
pub record IsOperandBlamed (row : Row) (bytes : List ℕ) (fault : Fault) (reported : Columns) : Type 0 where
  pub start : ℕ
  pub field : List ℕ
  pub at : ℕ
  pub operand : List ℕ
  pub is_field : IsField bytes start field
  pub refused : IsRefused row (operands_after_form row (operands_of bytes)) at operand fault
  pub columns : reported ≡ columns_of (length bytes) (start + before (form_before row (operands_of bytes)) + at + (part_of row fault operand).0) (part_of row fault operand).1

-- The columns are in the line.
pub record AreWithin (bytes : List ℕ) (columns : Columns) : Type 0 where
  pub begin : 1 ≤ columns.first
  pub order : columns.first ≤ columns.last
  pub end : columns.last ≤ length bytes
