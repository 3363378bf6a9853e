-- The kinds of operands, as the table of the language has them.
use Rattle.std.specs.Prelude.{ℕ, List, [], ◌∷◌, ◌||◌, not, Bool, Option, Some, None, Result, Ok, Err, codes}
use Rattle.mvs_model.specs.declared.line.Fault.{Fault}
use Rattle.mvs_model.specs.declared.line.Fault.TheVariants.{InvalidOperand, Repeated, OutOfRange}
use Rattle.mvs_model.specs.Grammar as grammar
use Rattle.mvs_model.specs.Reading.{◌when◌, is_of, repeats, is_within}
use Rattle.job_script.specs.declared.kinds.Kind.{Kind}
use Rattle.job_script.specs.declared.kinds.Kind.TheVariants as kind
use Rattle.job_script.specs.declared.kinds.Words.{Words}
use Rattle.job_script.specs.declared.kinds.Words.TheVariants as words

-- the words, one of which is the value of an operand
abbrev pub as_words : Words → List (List ℕ)
as_words words.Boundary = codes "DBLWD" ∷ codes "PAGE" ∷ []
as_words words.Location = codes "BELOW" ∷ codes "24" ∷ codes "ANY" ∷ codes "31" ∷ codes "RES" ∷ []
as_words words.YesNo = codes "YES" ∷ codes "NO" ∷ []
as_words words.Residence = codes "BELOW" ∷ codes "ABOVE" ∷ []
as_words words.Conditional = codes "COND" ∷ codes "C" ∷ codes "UNCOND" ∷ codes "U" ∷ []

-- the kind
abbrev pub as_kind : Kind → grammar.Kind
as_kind (kind.Number least most) = grammar.Number least most
as_kind kind.HexByte = grammar.HexByte
as_kind (kind.Word w) = grammar.Word (as_words w)
as_kind kind.Name = grammar.Name
as_kind kind.Address = grammar.Address
as_kind (kind.Bytes most) = grammar.Bytes most
as_kind (kind.Pair least most) = grammar.Pair least most
as_kind (kind.NumberOrPair least most) = grammar.NumberOrPair least most
as_kind (kind.Numbers count least most) = grammar.Numbers count least most
as_kind (kind.DistinctNumbers least most) = grammar.DistinctNumbers least most
as_kind (kind.DistinctNames count) = grammar.DistinctNames count
as_kind (kind.Addresses count) = grammar.Addresses count

-- the fault that was answered, where there was one
abbrev pub fault_in : {X : Type 0} → Result X Fault → Option Fault
fault_in (Ok x) = None
fault_in (Err fault) = Some fault

-- the possible faults of a text of a kind; `again` is true if its keyword is a duplicate
abbrev pub checks_of : grammar.Kind → Bool → List ℕ → List (Fault × Bool)
checks_of kind again text =
    InvalidOperand when not (is_of kind text)
    ∷ Repeated when (again || repeats kind text)
    ∷ OutOfRange when not (is_within kind text)
    ∷ []
