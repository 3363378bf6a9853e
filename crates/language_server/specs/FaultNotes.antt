-- Diagnostics of faults. Of lines before REGION only the first is reported.
use Rattle.std.specs.Prelude.{◌≡◌, ◌≤◌, ℕ, ◌-◌, ◌&&◌, ◌||◌, Bool, true, false, List, [], ◌∷◌, ◌++◌, codes, decimal, flat_map, length, Some}
use Rattle.mvs_model.specs.declared.line.Fault.{Fault}
use Rattle.mvs_model.specs.declared.line.Fault.TheVariants.{TooLong, InvalidByte, UnknownOperation, InvalidOperand, MissingOperand, OutOfRange, Repeated, Conflicting, OutOfPlace}
use Rattle.mvs_model.specs.Grammar as grammar
use Rattle.mvs_model.specs.Reading.{first_of, operand_checks, operands_after_form, operands_of, operation_in, row_of, with_left}
use Rattle.mvs_model.specs.Texts.{fault_number}
use Rattle.diagnosis.specs.Blame.{AreWithin, IsOperandBlamed}
use Rattle.diagnosis.specs.declared.columns.Columns.{Columns}
use Rattle.language_server.specs.Documents.{DocumentValue}
use Rattle.language_server.specs.NoteValues.{NoteValue, line_span}
use Rattle.language_server.specs.Spans.{line_bytes}
use Rattle.language_server.specs.declared.notes.Severity.TheVariants as level
use Rattle.language_server.specs.declared.runnable.FaultAt.{FaultAt}
use Rattle.language_server.specs.declared.span.Span.{Span}

-- whether a fault is that of a line before REGION
abbrev pub is_out_of_place : Fault → Bool
is_out_of_place OutOfPlace = true
is_out_of_place TooLong = false
is_out_of_place InvalidByte = false
is_out_of_place UnknownOperation = false
is_out_of_place InvalidOperand = false
is_out_of_place MissingOperand = false
is_out_of_place OutOfRange = false
is_out_of_place Repeated = false
is_out_of_place Conflicting = false

abbrev pub onto_reported : Bool → FaultAt → List FaultAt → List FaultAt
onto_reported true f faults = faults
onto_reported false f faults = f ∷ faults

-- the faults that are reported, after one of a line before REGION or without one
abbrev pub reported_from : Bool → List FaultAt → List FaultAt
reported_from found [] = []
reported_from found (f ∷ faults) = onto_reported (found && is_out_of_place f.fault) f (reported_from (found || is_out_of_place f.fault) faults)

abbrev pub reported_faults : List FaultAt → List FaultAt
reported_faults faults = reported_from false faults

-- the code of a fault: JS and two digits
abbrev pub fault_code : Fault → List ℕ
fault_code fault = codes "JS0" ++ decimal (fault_number fault)

-- The columns are those that are to blame for a fault: in the line, and of the first operand that is refused, if one is.
pub record AreToBlame (line : List ℕ) (fault : Fault) (columns : Columns) : Type 0 where
  pub within : 1 ≤ length line → AreWithin line columns
  pub operand : (row : grammar.Row) → row_of (operation_in line) (operands_of line) ≡ Some row
      → first_of (flat_map (operand_checks row) (with_left (operands_after_form row (operands_of line)))) ≡ Some fault
      → IsOperandBlamed row line fault columns

-- columns, counted from 1, as a span of their line
abbrev pub columns_span : Columns → Span
columns_span columns = record { start = columns.first - 1; end = columns.last }

-- The diagnostic is that of a fault. No clause says what its message is.
pub record IsFaultNote (d : DocumentValue) (f : FaultAt) (note : NoteValue) : Type 0 where
  pub columns : Columns
  pub blame : AreToBlame (line_bytes d.text f.line) f.fault columns
  pub span : note.span ≡ line_span d.text f.line (columns_span columns)
  pub severity : note.severity ≡ level.Error
  pub code : note.code ≡ fault_code f.fault

-- The diagnostics are those of some faults, one for each.
abbrev pub AreFaultNotes : DocumentValue → List FaultAt → List NoteValue → Type 0
AreFaultNotes d [] notes = notes ≡ []
AreFaultNotes d (f ∷ faults) notes = (note : NoteValue) × (rest : List NoteValue) × IsFaultNote d f note × AreFaultNotes d faults rest × (notes ≡ note ∷ rest)
