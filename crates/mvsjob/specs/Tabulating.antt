-- The effect of --schedules: what it writes, how the program ends, and which line to report.
use Rattle.std.specs.Prelude.{◌≡◌, ◌⊎◌, ℕ, Bool, true, List, Option, Some, None, Result, Ok, Err}
use Rattle.std.specs.Io.KnownBytes.{Appends}
use Rattle.std.specs.List.{AllByRecursion}
use Rattle.mvs_model.specs.declared.outcome.Outcome.TheVariants.{ScriptFault}
use Rattle.mvs_model.specs.Lines.{lines_of}
use Rattle.mvs_job.specs.declared.run.RunFault.{RunFault}
use Rattle.mvsjob.specs.declared.ending.CliError.{CliError}
use Rattle.mvsjob.specs.declared.ending.CliError.TheVariants.{Job}
use Rattle.mvsjob.specs.declared.ending.ExitReason.TheVariants.{Ran, Explored as Verdicts}
use Rattle.mvsjob.specs.declared.options.RunOutput.{RunOutput}
use Rattle.mvsjob.specs.declared.options.RunOutput.TheVariants.{Replies, Json, Page, PageFile}
use Rattle.mvsjob.specs.declared.served.ModeResult.{ModeResult}
use Rattle.schedules.specs.declared.exploring.Explored.{Explored}
use Rattle.schedules.specs.JsonReports.{json_from}
use Rattle.schedules.specs.Reports.{report_from, verdict_of}
use Rattle.schedules.specs.Scripts.{AreStepLines, AreSteps}

-- The tables of the steps of a script are written as lines of JSON with `--json`, else as text.
abbrev pub IsTable : RunOutput → Explored → List ℕ → Type 0
IsTable Json explored table = table ≡ json_from explored.steps.items 0 explored.lines.items
IsTable Replies explored table = table ≡ report_from explored.steps.items 0 explored.lines.items
IsTable Page explored table = table ≡ report_from explored.steps.items 0 explored.lines.items
IsTable PageFile explored table = table ≡ report_from explored.steps.items 0 explored.lines.items

-- The statements of the script were run in all orders, or in this number of them for each step, and their table is written.
pub record IsTabulated (output : RunOutput) (ignores : Bool) (most : ℕ) (script table : List ℕ) (served : ModeResult) : Type 0 where
  pub explored : Explored
  pub lines : AreStepLines true 1 (lines_of script) explored.lines.items
  pub addresses : AllByRecursion (λ l. l.ignores_addresses ≡ ignores) explored.lines.items
  pub steps : AreSteps most explored.lines.items explored.steps.items
  pub table_is : IsTable output explored table
  pub ending : served.ending ≡ Verdicts (verdict_of explored.steps.items)
  pub reported : served.faulty ≡ None

-- The table is written, or a line is to be reported with whose fault each run ends; or the program stops.
abbrev pub Tabulates : RunOutput → Bool → ℕ → Option (List ℕ) → Option (List ℕ) → List ℕ → Result ModeResult CliError → Type 0
Tabulates output ignores most before after script (Ok served) =
    ((table : List ℕ) × Appends before after table × IsTabulated output ignores most script table served) ⊎ (served.ending ≡ Ran ScriptFault)
Tabulates output ignores most before after script (Err why) = (fault : RunFault) × (why ≡ Job fault)
