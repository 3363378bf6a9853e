-- The lines of a script, and the ranges of what they say.
use Rattle.std.specs.Prelude.{◌≡◌, ◌≢◌, ℕ, ◌≤◌, Bool, false, List, [], ◌∷◌, ◌++◌, ◌==◌, Result, Ok, if◌then◌else◌}
use Rattle.std.specs.List.{onto_first, AllByRecursion}
use Rattle.mvs_model.specs.declared.name.Name.{Name}
use Rattle.mvs_model.specs.declared.line.Line.{Line}
use Rattle.mvs_model.specs.declared.line.Line.TheVariants as line
use Rattle.mvs_model.specs.declared.line.Statement.{Statement}
use Rattle.mvs_model.specs.declared.line.Statement.TheVariants as says
use Rattle.mvs_model.specs.declared.line.SourceRequest.{SourceRequest}
use Rattle.mvs_model.specs.declared.line.SourceRequest.TheVariants as written
use Rattle.mvs_model.specs.declared.line.Fault.{Fault}
use Rattle.mvs_model.specs.declared.want.Residence.{Residence}
use Rattle.mvs_model.specs.Want.{IsAsk}
use Rattle.mvs_model.specs.Gifts.{IsGifts}
use Rattle.mvs_model.specs.Card.{CardValue, IsCard}

-- the lines of a script: each ends before a byte X'0A', and the last one also at the end of the script. (this project's choice)
abbrev pub lines_of : List ℕ → List (List ℕ)
lines_of [] = []
lines_of (b ∷ bs) = if b == 10 then [] ∷ lines_of bs else onto_first b (lines_of bs)

-- the text of complete lines
abbrev pub ended_text : List (List ℕ) → List ℕ
ended_text [] = []
ended_text (l ∷ lines) = l ++ 10 ∷ ended_text lines

-- No line ends in these bytes.
abbrev pub IsUnended : List ℕ → Type 0
IsUnended bytes = AllByRecursion (λ b. b ≢ 10) bytes

-- the card that a REGION statement of a task makes
abbrev pub card_of : Name → ℕ → ℕ → ℕ → Residence → CardValue
card_of t below above fill residence = record { name = t; below = below; above = above; fill = fill; residence = residence }

-- The operands of a statement are in their ranges.
abbrev pub IsWritten : SourceRequest → Type 0
IsWritten (written.Obtain form number ask variable area) = IsAsk ask
IsWritten (written.Build pool number size primary secondary loc) = (4 ≤ size) × (1 ≤ primary) × (1 ≤ secondary)
IsWritten (written.Attach name gifts residence) = IsGifts gifts
IsWritten (written.ObtainList form number lengths start areas) = Unit {0}
IsWritten (written.Release form number location len) = Unit {0}
IsWritten (written.ReleaseArea form number area) = Unit {0}
IsWritten (written.ReleaseList form number locations lengths) = Unit {0}
IsWritten (written.ReleaseWhole form number) = Unit {0}
IsWritten (written.Get pool conditional cell) = Unit {0}
IsWritten (written.Free pool cell) = Unit {0}
IsWritten (written.Delete pool) = Unit {0}
IsWritten written.Return = Unit {0}
IsWritten (written.Abend code) = Unit {0}
IsWritten (written.Show location len) = Unit {0}
IsWritten (written.Put location bytes) = Unit {0}
IsWritten (written.Move to from len) = Unit {0}

-- The first statement is REGION, the card of each is in its ranges, and so are the operands of a request.
abbrev pub IsStatement : Bool → Name → Statement → Type 0
IsStatement first t (says.Region below above fill residence) = IsCard (card_of t below above fill residence)
IsStatement first t (says.Request a) = (first ≡ false) × IsWritten a
IsStatement first t (says.Where name) = first ≡ false
IsStatement first t says.ReportSubpools = first ≡ false
IsStatement first t says.ReportMap = first ≡ false

-- What a line specifies is in range.
abbrev pub IsLine : Bool → Result Line Fault → Type 0
IsLine first (Ok (line.Statement t s)) = IsStatement first t s
IsLine first _ = Unit {0}
