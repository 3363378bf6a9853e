-- The effect of --check: what it writes, how the program ends, and which line to report.
use Rattle.std.specs.Prelude.{◌≡◌, ◌==◌, ◌&&◌, ◌||◌, ℕ, nat_le, not, List, [], Option, Some, None, Result, Ok, Err, Bool, true, false, if◌then◌else◌}
use Rattle.std.specs.Io.KnownBytes.{Appends}
use Rattle.expected_answers.specs.declared.report.Counts.{Counts}
use Rattle.expected_answers.specs.declared.report.ReportForm.{ReportForm}
use Rattle.expected_answers.specs.ExpectedAnswers.{expected_of, statements}
use Rattle.expected_answers.specs.Reports.{are_right, counts_of, report_of}
use Rattle.line_text.specs.Writing.{AppendsFront}
use Rattle.mvs_model.specs.declared.outcome.Outcome.{Outcome}
use Rattle.mvs_model.specs.declared.outcome.Outcome.TheVariants.{ScriptFault}
use Rattle.mvs_model.specs.Runs.{IsPrinting}
use Rattle.mvs_job.specs.declared.run.RunFault.TheVariants as fault
use Rattle.mvsjob.specs.declared.ending.ExitReason.{ExitReason}
use Rattle.mvsjob.specs.declared.ending.ExitReason.TheVariants.{Ran, Checked}
use Rattle.mvsjob.specs.declared.ending.CliError.{CliError}
use Rattle.mvsjob.specs.declared.ending.CliError.TheVariants.{Job}
use Rattle.mvsjob.specs.declared.faulty.FaultyLine.{FaultyLine}
use Rattle.mvsjob.specs.declared.served.ModeResult.{ModeResult}
use Rattle.mvsjob.specs.ModeResult.{IsFaultOf}

-- the number of a line with a fault
abbrev pub line_of : Option FaultyLine → Option ℕ
line_of None = None
line_of (Some faulty) = Some faulty.number

-- How the program ends, by the counts of the answers and the line whose fault ended the run. The script expects the fault if it has an
-- answer in this line or in one after it.
abbrev pub checked_ending : Counts → Option ℕ → ExitReason
checked_ending n None = Checked (not (are_right n))
checked_ending n (Some line) = if not (are_right n) then Checked true else if nat_le line n.last then Checked false else Ran ScriptFault

-- whether the line of a fault is not reported: the script has an answer for the fault, and the report hides what the run printed, or
-- some answer is missing
abbrev pub hides_fault : Bool → Counts → ℕ → Bool
hides_fault hides n line = (hides || not (n.missing == 0)) && nat_le line n.last

-- A fault is reported, or it is hidden.
abbrev pub IsShown : Bool → FaultyLine → Option FaultyLine → Type 0
IsShown true found reported = reported ≡ None
IsShown false found None = ⊥
IsShown false found (Some reported) = (reported.number ≡ found.number) × (reported.fault ≡ found.fault)

-- The line to report is the one whose fault ended the run, unless it is hidden.
abbrev pub IsReported : Bool → Counts → Option FaultyLine → Option FaultyLine → Type 0
IsReported hides n None reported = reported ≡ None
IsReported hides n (Some found) reported = IsShown (hides_fault hides n found.number) found reported

-- A report is that of the answers of a script, by a run of its statements; and the program ends by these answers.
pub record IsChecked (form : ReportForm) (name script report : List ℕ) (served : ModeResult) : Type 0 where
  pub printed : List ℕ
  pub outcome : Outcome
  pub found : Option FaultyLine
  pub run : IsPrinting (statements script) printed outcome
  pub fault : IsFaultOf (statements script) outcome found
  pub report_is : report ≡ report_of form.format form.is_hidden name (expected_of script printed)
  pub ending : served.ending ≡ checked_ending (counts_of (expected_of script printed)) (line_of found)
  pub reported : IsReported form.is_hidden (counts_of (expected_of script printed)) found served.faulty

-- What a check does between two moments of a writer: it writes its report. If memory is exhausted it writes nothing, and if a write
-- fails a front of the report.
abbrev pub Checks : Option (List ℕ) → Option (List ℕ) → ReportForm → List ℕ → List ℕ → Result ModeResult CliError → Type 0
Checks before after form name script (Ok served) = (report : List ℕ) × Appends before after report × IsChecked form name script report served
Checks before after form name script (Err (Job fault.Memory)) = Appends before after []
Checks before after form name script (Err (Job fault.Write)) =
    (printed : List ℕ) × (outcome : Outcome) × IsPrinting (statements script) printed outcome × AppendsFront before after (report_of form.format form.is_hidden name (expected_of script printed))
Checks before after form name script (Err _) = ⊥
