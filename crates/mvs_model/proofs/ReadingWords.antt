-- Blanks and remarks change nothing.
use Rattle.std.proofs.Common.{◌≡◌, Bool, List, ℕ, [], ◌∷◌, not, sym, ◌∙◌, Some, Option, unwrap_or, if◌then◌else◌}
use Rattle.std.specs.List.{list_any}
use Rattle.mvs_model.proofs.Types.{TooLong, InvalidByte}
use Rattle.mvs_model.specs.declared.line.Line.TheVariants as line
use Rattle.mvs_model.specs.Reading.{checks, first_of, line_meaning, statement_checks, operands_in, rows_of, row_of, form_in, ◌when◌}
use Rattle.mvs_model.specs.ReadingLaws.{SameWords, OnlyWords}
use Rattle.mvs_model.proofs.Reading.{said_with}

-- the operands by the second and the third word
abbrev operands_by : List ℕ → Option (List ℕ) → List (List ℕ)
operands_by operation field = if list_any (λ row. row.has_field) (rows_of operation) then operands_in field else []

checks_same : (first : Bool) (a b : List ℕ) → SameWords a b → checks first a ≡ checks first b
checks_same first a b h = λ i.
    TooLong when h.length_same i
    ∷ InvalidByte when not (h.bytes_same i)
    ∷ (if h.nothing_same i then [] else statement_checks first (h.task_same i) (unwrap_or (h.operation_same i) []) (operands_by (unwrap_or (h.operation_same i) []) (h.field_same i)))

said_same : (a b : List ℕ) → SameWords a b → line_meaning a ≡ line_meaning b
said_same a b h = λ i.
    let operation = unwrap_or (h.operation_same i) [] in
    let operands = operands_by operation (h.field_same i) in
    if h.nothing_same i then Some line.Nothing else said_with (h.task_same i) (form_in operation operands) operands (row_of operation operands)

pub only_words : OnlyWords
only_words first a b h = (
  λ l is. record { no_fault = (λ i. first_of (sym (checks_same first a b h) i)) ∙ is.no_fault; says = sym (said_same a b h) ∙ is.says },
  λ fault is. (λ i. first_of (sym (checks_same first a b h) i)) ∙ is,
)
