-- What a statement is read as.
use Rattle.std.specs.Prelude.{◌≡◌, ℕ, List, [], ◌∷◌, length, nat_le, nat_lt, Bool, not, ◌&&◌, Some, None, Result, Ok, Err, bytes_eq, codes, slice_get, unwrap_or}
use Rattle.std.specs.List.{list_all}
use Rattle.mvs_model.specs.declared.line.Fault.{Fault}
use Rattle.mvs_model.specs.declared.line.Fault.TheVariants.{TooLong, InvalidByte}
use Rattle.mvs_model.specs.declared.line.Line.{Line}
use Rattle.mvs_model.specs.Name.{padded}
use Rattle.mvs_model.specs.Reading.{◌when◌, first_of, statement_checks, task_in, operation_in, operands_of, words}
use Rattle.job_script.specs.declared.operations.Operation.{Operation}
use Rattle.job_script.specs.declared.operations.Operation.TheVariants as operation
use Rattle.job_script.specs.Rowed.{operation_meaning}

-- what may be wrong with the bytes of a line
abbrev pub byte_checks : List ℕ → List (Fault × Bool)
byte_checks bytes = TooLong when nat_lt 255 (length bytes) ∷ InvalidByte when not (list_all (λ b. nat_le 32 b && nat_le b 126) bytes) ∷ []

-- whether an operation is allowed there
abbrev pub is_in_place : Bool → List ℕ → Bool
is_in_place first word = not (first && not (bytes_eq word (codes "REGION")))

-- the operands after an operation, if it has any: the first word there
abbrev pub field_of : Operation → List ℕ → List ℕ
field_of operation.Return rest = []
field_of operation.Region rest = unwrap_or (slice_get (words rest) 0) []
field_of operation.Getmain rest = unwrap_or (slice_get (words rest) 0) []
field_of operation.Freemain rest = unwrap_or (slice_get (words rest) 0) []
field_of operation.Storage rest = unwrap_or (slice_get (words rest) 0) []
field_of operation.Cpool rest = unwrap_or (slice_get (words rest) 0) []
field_of operation.Attach rest = unwrap_or (slice_get (words rest) 0) []
field_of operation.Abend rest = unwrap_or (slice_get (words rest) 0) []
field_of operation.Put rest = unwrap_or (slice_get (words rest) 0) []
field_of operation.Show rest = unwrap_or (slice_get (words rest) 0) []
field_of operation.Move rest = unwrap_or (slice_get (words rest) 0) []
field_of operation.Where rest = unwrap_or (slice_get (words rest) 0) []
field_of operation.Report rest = unwrap_or (slice_get (words rest) 0) []

-- The line, which says something, is read as a statement, or the first fault is answered.
abbrev pub StatementReading : Bool → List ℕ → Result Line Fault → Type 0
StatementReading first bytes (Ok l) =
    (first_of (statement_checks first (task_in bytes) (operation_in bytes) (operands_of bytes)) ≡ None) × (operation_meaning (operation_in bytes) (padded (task_in bytes)) (operands_of bytes) ≡ Some l)
StatementReading first bytes (Err fault) = first_of (statement_checks first (task_in bytes) (operation_in bytes) (operands_of bytes)) ≡ Some fault
