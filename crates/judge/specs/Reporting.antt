-- REPORT SP, whatever the numbers in it are.
use Rattle.std.specs.Prelude.{◌≡◌, ℕ, List, ◌++◌, not}
use Rattle.std.specs.List.{filter}
use Rattle.mvs_model.specs.declared.line.Line.{Line}
use Rattle.mvs_model.specs.declared.line.Line.TheVariants as line
use Rattle.mvs_model.specs.declared.line.Statement.TheVariants as says
use Rattle.mvs_model.specs.Reading.{is_digit}

-- the text without its decimal digits
abbrev pub undigited : List ℕ → List ℕ
undigited text = filter (λ b. not (is_digit b)) text

-- The line is a REPORT SP, which prints this in a run, and a text does not go on so, whatever the numbers are.
abbrev pub DiffersInReport : Line → List ℕ → List ℕ → Type 0
DiffersInReport (line.Statement t says.ReportSubpools) printed text = (rest : List ℕ) → undigited text ≡ undigited printed ++ rest → ⊥
DiffersInReport (line.Statement t says.ReportMap) printed text = ⊥
DiffersInReport (line.Statement t (says.Where name)) printed text = ⊥
DiffersInReport (line.Statement t (says.Request k)) printed text = ⊥
DiffersInReport (line.Statement t (says.Region below above fill residence)) printed text = ⊥
DiffersInReport line.Nothing printed text = ⊥
