-- What a row of the table makes of the operands of a statement.
use Rattle.std.specs.Prelude.{◌≡◌, ℕ, List, [], ◌∷◌, ◌++◌, ◌&&◌, ◌||◌, not, Bool, Option, Some, None, is_some, Result, Ok, Err, flat_map}
use Rattle.std.specs.Option.{option_map}
use Rattle.std.specs.List.{list_any}
use Rattle.mvs_model.specs.declared.name.Name.{Name}
use Rattle.mvs_model.specs.declared.line.Fault.{Fault}
use Rattle.mvs_model.specs.declared.line.Fault.TheVariants.{MissingOperand, Conflicting, UnknownOperation}
use Rattle.mvs_model.specs.declared.line.Line.{Line}
use Rattle.mvs_model.specs.declared.line.Line.TheVariants as line
use Rattle.mvs_model.specs.Grammar as grammar
use Rattle.mvs_model.specs.Reading.{by_key, first_of, operand_checks, with_left, lacks_positional, lacks_keyword, is_half, is_conflict, statement_of, ◌when◌, ◌>>=◌, is_empty, has_key, takes_form, form_in, row_of, operands_after_form, row_checks}

-- all possible faults of the operands after a form
abbrev pub checks_after_form : grammar.Row → List (List ℕ) → List (Fault × Bool)
checks_after_form row os =
    flat_map (operand_checks row) (with_left os)
    ++ MissingOperand when (lacks_positional row (by_key os) || lacks_keyword row (by_key os) || list_any (is_half (by_key os)) row.rules)
    ∷ Conflicting when list_any (is_conflict (by_key os)) row.rules
    ∷ []

-- The operands are parsed with a row: no check fails and this is the meaning, or the first fault is returned.
abbrev pub RowReading : grammar.Row → Name → List ℕ → List (List ℕ) → Result Line Fault → Type 0
RowReading row task form os (Ok l) = (first_of (checks_after_form row os) ≡ None) × (option_map (line.Statement task) (statement_of row.meaning form (by_key os)) ≡ Some l)
RowReading row task form os (Err fault) = first_of (checks_after_form row os) ≡ Some fault

-- all that may be wrong with the form and the operands of an operation
abbrev pub form_checks : List ℕ → List (List ℕ) → List (Fault × Bool)
form_checks operation os =
    MissingOperand when (takes_form operation && (is_empty os || has_key (form_in operation os)))
    ∷ UnknownOperation when not (is_some (row_of operation os))
    ∷ row_checks os (row_of operation os)

-- what an operation says with its operands
abbrev pub operation_meaning : List ℕ → Name → List (List ℕ) → Option Line
operation_meaning operation task os =
    row_of operation os >>= λ row. statement_of row.meaning (form_in operation os) (by_key (operands_after_form row os)) >>= λ statement. Some (line.Statement task statement)

-- The operands of an operation are read, or the first fault is answered.
abbrev pub FormReading : List ℕ → Name → List (List ℕ) → Result Line Fault → Type 0
FormReading operation task os (Ok l) = (first_of (form_checks operation os) ≡ None) × (operation_meaning operation task os ≡ Some l)
FormReading operation task os (Err fault) = first_of (form_checks operation os) ≡ Some fault

-- a field that is not empty
abbrev pub as_field : List ℕ → Option (List ℕ)
as_field [] = None
as_field (b ∷ bs) = Some (b ∷ bs)
