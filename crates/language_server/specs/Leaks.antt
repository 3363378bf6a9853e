-- The reports of a run of a script about areas that were never released.
use Rattle.std.specs.Prelude.{◌≡◌, ◌⊎◌, ℕ, Bool, List, [], ◌∷◌, ◌++◌, flat_map, length, Some, None, Option, Err}
use Rattle.mvs_model.specs.Lines.{lines_of}
use Rattle.mvs_model.specs.declared.outcome.Outcome.{Outcome}
use Rattle.mvs_job.specs.Consuming.{LeavesText}
use Rattle.mvs_job.specs.Printed.{printed}
use Rattle.mvs_job.specs.Trace.{Entry}
use Rattle.mvs_job.specs.declared.printing.Stop.TheVariants as stop
use Rattle.area_history.specs.LeakTexts.{report_text}
use Rattle.area_history.specs.Reporting.{IsReported, with_leaks}
use Rattle.language_server.specs.Explanations.{starred}
use Rattle.language_server.specs.Transcripts.{most_printed}

abbrev pub report_line : List ℕ → Option (List ℕ) → List ℕ
report_line line None = []
report_line line (Some text) = line ++ 10 ∷ []

-- the lines of what a run printed that begin with an asterisk
abbrev pub report_lines : List (List ℕ) → List ℕ
report_lines lines = flat_map (λ line. report_line line (starred line)) lines

-- The text is what a run of the script prints, with a report at the end of each step.
pub record IsReportedRun (script text : List ℕ) : Type 0 where
  pub outcome : Outcome
  pub leaked : Bool
  pub entries : List Entry
  pub reported : IsReported report_text printed (Some []) (Some text) script outcome leaked entries

-- The text is a front of that, which has as many bytes as are shown.
abbrev pub IsCut : List ℕ → List ℕ → Type 0
IsCut script text = LeavesText (with_leaks report_text printed) (Some []) (Some text) script (Err stop.Write) × (length text ≡ most_printed)

-- These are the reports of a run of the script: their lines, or nothing, if the run prints too much.
pub record AreLeaks (script leaks : List ℕ) : Type 0 where
  pub text : List ℕ
  pub is : (IsReportedRun script text × (leaks ≡ report_lines (lines_of text))) ⊎ (IsCut script text × (leaks ≡ []))
