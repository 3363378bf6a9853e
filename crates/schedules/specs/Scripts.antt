-- The statements of a script, and its steps.
use Rattle.std.specs.Prelude.{◌≡◌, ◌⊎◌, ℕ, ◌+◌, Bool, true, false, List, [], ◌∷◌, ◌++◌}
use Rattle.std.specs.List.{AllByRecursion}
use Rattle.mvs_model.specs.declared.line.Fault.{Fault}
use Rattle.mvs_model.specs.declared.line.Line.TheVariants as line
use Rattle.mvs_model.specs.declared.line.Statement.{Statement}
use Rattle.mvs_model.specs.declared.line.Statement.TheVariants as says
use Rattle.mvs_model.specs.Lines.{lines_of}
use Rattle.mvs_model.specs.Reading.{LineOf, FaultOf, is_empty}
use Rattle.schedules.specs.declared.script.ScheduleError.{ScheduleError}
use Rattle.schedules.specs.declared.script.ScheduleError.TheVariants as stop
use Rattle.schedules.specs.declared.search.StepSchedules.{StepSchedules}
use Rattle.schedules.specs.declared.step_line.StepLine.{StepLine}
use Rattle.schedules.specs.Searched.{IsSearched}

-- whether a statement is REGION, which begins a step
abbrev pub is_region : Statement → Bool
is_region (says.Region below above fill residence) = true
is_region (says.Request a) = false
is_region (says.Where name) = false
is_region says.ReportSubpools = false
is_region says.ReportMap = false

-- The statement on the line with this number.
pub record IsStepLine (first : Bool) (number : ℕ) (bytes : List ℕ) (l : StepLine) : Type 0 where
  pub statement : Statement
  pub reads : LineOf first bytes (line.Statement l.task statement)
  pub number_is : l.number ≡ number
  pub begins : l.is_region ≡ is_region statement
  pub bytes_are : l.bytes.items ≡ bytes

-- The statements of some lines, of which the first has this number. `first` says whether no statement comes before. Lines that are
-- blank or comments have none.
pub data AreStepLines : Bool → ℕ → List (List ℕ) → List StepLine → Type 0 where
  NoLine : (first : Bool) (number : ℕ) → AreStepLines first number [] []
  Blank : (first : Bool) (number : ℕ) (bytes : List ℕ) (lines : List (List ℕ)) (found : List StepLine)
      → LineOf first bytes line.Nothing → AreStepLines first (number + 1) lines found → AreStepLines first number (bytes ∷ lines) found
  Stated : (first : Bool) (number : ℕ) (bytes : List ℕ) (lines : List (List ℕ)) (l : StepLine) (found : List StepLine)
      → IsStepLine first number bytes l → AreStepLines false (number + 1) lines found → AreStepLines first number (bytes ∷ lines) (l ∷ found)

-- The first line with a fault, and the fault.
pub data HasFault : Bool → ℕ → List (List ℕ) → ℕ → Fault → Type 0 where
  Here : (first : Bool) (number : ℕ) (bytes : List ℕ) (lines : List (List ℕ)) (fault : Fault)
      → FaultOf first bytes fault → HasFault first number (bytes ∷ lines) number fault
  AfterBlank : (first : Bool) (number : ℕ) (bytes : List ℕ) (lines : List (List ℕ)) (n : ℕ) (fault : Fault)
      → LineOf first bytes line.Nothing → HasFault first (number + 1) lines n fault → HasFault first number (bytes ∷ lines) n fault
  AfterStatement : (first : Bool) (number : ℕ) (bytes : List ℕ) (lines : List (List ℕ)) (l : StepLine) (n : ℕ) (fault : Fault)
      → IsStepLine first number bytes l → HasFault false (number + 1) lines n fault → HasFault first number (bytes ∷ lines) n fault

-- The statement on the line with this number, if it has one, is added to those before.
abbrev pub AddsLine : ℕ → List ℕ → List StepLine → List StepLine → Type 0
AddsLine number bytes old new =
    (LineOf (is_empty old) bytes line.Nothing × (new ≡ old))
    ⊎ ((l : StepLine) × IsStepLine (is_empty old) number bytes l × (is_empty old ≡ true → l.is_region ≡ true) × (new ≡ old ++ l ∷ []))

-- The line with this number has a fault, or memory was exhausted.
abbrev pub IsStoppedAt : Bool → ℕ → List ℕ → ScheduleError → Type 0
IsStoppedAt first number bytes stop.Memory = Unit {0}
IsStoppedAt first number bytes (stop.Fault n fault) = (n ≡ number) × FaultOf first bytes fault

-- A line of the script has this fault, and it is the first; or memory was exhausted.
abbrev pub IsStopped : List ℕ → ScheduleError → Type 0
IsStopped script stop.Memory = Unit {0}
IsStopped script (stop.Fault n fault) = HasFault true 1 (lines_of script) n fault

-- The statements are those of steps, each of which a REGION statement begins, and these are the tables of the steps.
abbrev pub AreSteps : ℕ → List StepLine → List StepSchedules → Type 0
AreSteps most lines [] = lines ≡ []
AreSteps most lines (step ∷ steps) =
    (region : StepLine) × (own : List StepLine) × (others : List StepLine) × (lines ≡ region ∷ own ++ others)
    × (region.is_region ≡ true) × AllByRecursion (λ l. l.is_region ≡ false) own × IsSearched region own most step × AreSteps most others steps
