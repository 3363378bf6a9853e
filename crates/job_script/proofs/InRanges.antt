-- What is read is in its ranges.
use Rattle.std.proofs.Common.{List, ℕ, Bool, Result, Ok, Err}
use Rattle.mvs_model.specs.declared.line.Fault.{Fault}
use Rattle.mvs_model.specs.declared.line.Line.{Line}
use Rattle.mvs_model.specs.Reading.{IsReading}
use Rattle.mvs_model.specs.Lines.{IsLine}
use Rattle.mvs_model.proofs.ReadingRanges.{line_ranged}

pub reading_ranged : (first : Bool) (bytes : List ℕ) (result : Result Line Fault) → IsReading first bytes result → IsLine first result
reading_ranged first bytes (Ok l) is = line_ranged first bytes l is
reading_ranged first bytes (Err fault) is = tt
