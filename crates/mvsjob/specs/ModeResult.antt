-- The effect of a mode on a script that was read whole: what it writes, how the program ends, and which line to report.
use Rattle.std.specs.Prelude.{◌⊎◌, ◌≡◌, ℕ, List, ◌∷◌, ◌++◌, ◌==◌, ◌&&◌, ◌||◌, nat_lt, not, position, Option, Some, None, Result, Ok, Err, Bool, true, false, codes}
use Rattle.std.specs.List.{list_all}
use Rattle.std.specs.Io.KnownBytes.{Appends}
use Rattle.area_history.specs.declared.account.Leftovers.{Leftovers}
use Rattle.area_history.specs.Reporting.{IsReported, with_leaks}
use Rattle.expected_answers.specs.Blank.{blank}
use Rattle.line_text.specs.Writing.{AppendsFront}
use Rattle.judge.specs.declared.Finding.{Finding}
use Rattle.judge.specs.declared.Finding.TheVariants as finding
use Rattle.judge.specs.Judging.{IsFound}
use Rattle.mvs_model.specs.declared.outcome.Outcome.{Outcome}
use Rattle.mvs_model.specs.declared.outcome.Outcome.TheVariants.{Clean, SomeAbend, ScriptFault}
use Rattle.mvs_model.specs.Answers.{Event}
use Rattle.mvs_model.specs.Lines.{lines_of}
use Rattle.mvs_model.specs.Runs.{IsRun}
use Rattle.mvs_job.specs.declared.printing.Stop.{Stop}
use Rattle.mvs_job.specs.declared.run.RunFault.{RunFault}
use Rattle.mvs_job.specs.declared.run.RunFault.TheVariants as fault
use Rattle.mvs_job.specs.Consuming.{LeavesText, Piece}
use Rattle.mvs_job.specs.Trace.{Entry, events_of}
use Rattle.mvs_job.specs.Streams.{PrintedUpTo}
use Rattle.reference.specs.Texts.{IsAbout}
use Rattle.mvs_job.specs.Strict.{ObservesFront, PrintsStrictly, RunsObserved, Skipped, is_of_served}
use Rattle.mvsjob.specs.declared.ending.ExitReason.TheVariants.{Ran, Printed, Judged}
use Rattle.mvsjob.specs.declared.ending.CliError.{CliError}
use Rattle.mvsjob.specs.declared.ending.CliError.TheVariants.{Job}
use Rattle.mvsjob.specs.declared.faulty.FaultyLine.{FaultyLine}
use Rattle.mvsjob.specs.declared.served.ModeResult.{ModeResult}
use Rattle.mvsjob.specs.Queries.{with_queries}
use Rattle.mvsjob.specs.Endings.{gave_up, leak_ending, strict_ending}
use Rattle.mvsjob.specs.FaultyLine.{EndsAt, IsFirstFault, IsLineOf}

-- The line to report of a script whose run ended so: none, or the one with which each run ends that ends with a fault.
abbrev pub IsFaultOf : List ℕ → Outcome → Option FaultyLine → Type 0
IsFaultOf script ScriptFault None = ⊥
IsFaultOf script ScriptFault (Some faulty) =
    ((events : List Event) → IsRun script events ScriptFault → EndsAt faulty.number faulty.fault events) × IsLineOf 1 (lines_of script) faulty.number faulty.line.now
IsFaultOf script outcome faulty = faulty ≡ None

-- Its run is printed, and an observer is called for exactly the lines that were not executed, or if the run stops for those among
-- the first lines.
abbrev pub RunsStrictly : Option (List ℕ) → Option (List ℕ) → Option (List Skipped) → Option (List Skipped) → List ℕ → Result ModeResult CliError → Type 0
RunsStrictly before after heard heard' script (Ok served) =
    (outcome : Outcome) × (all : Bool) × PrintsStrictly before after heard heard' script outcome all × (served.ending ≡ strict_ending outcome all) × IsFaultOf script outcome served.faulty
RunsStrictly before after heard heard' script (Err why) = (stop : Stop) × (why ≡ gave_up stop) × PrintedUpTo stop before after script × ObservesFront heard heard' script

-- It is run, a consumer writes of it, and it is observed so.
abbrev pub ConsumesStrictly : Piece → Option (List ℕ) → Option (List ℕ) → Option (List Skipped) → Option (List Skipped) → List ℕ → Result ModeResult CliError → Type 0
ConsumesStrictly piece before after heard heard' script (Ok served) =
    (outcome : Outcome) × (all : Bool) × RunsObserved piece before after heard heard' script outcome all × (served.ending ≡ strict_ending outcome all) × IsFaultOf script outcome served.faulty
ConsumesStrictly piece before after heard heard' script (Err why) = (stop : Stop) × (why ≡ gave_up stop) × LeavesText piece before after script (Err stop) × ObservesFront heard heard' script

-- It is run, and a consumer writes of it with a report of leaks of this form at the end of each step. If the run is strict, the mode ends by
-- whether each line was executed.
abbrev pub ReportsLeaks : (Leftovers → List ℕ) → Bool → Piece → Option (List ℕ) → Option (List ℕ) → List ℕ → Result ModeResult CliError → Type 0
ReportsLeaks report strict piece before after script (Ok served) =
    (entries : List Entry) × (outcome : Outcome) × (leaked : Bool) × IsReported report piece before after script outcome leaked entries
    × (served.ending ≡ leak_ending leaked (strict_ending outcome (not strict || list_all is_of_served (events_of entries)))) × IsFaultOf script outcome served.faulty
ReportsLeaks report strict piece before after script (Err why) = (stop : Stop) × (why ≡ gave_up stop) × LeavesText (with_leaks report piece) before after script (Err stop)

-- ---- texts

-- whether a byte is one that no script may have
abbrev pub is_foreign : ℕ → Bool
is_foreign b = not (b == 10) && (nat_lt b 32 || nat_lt 126 b)

-- A script has only bytes that it may have.
abbrev pub HasNoForeign : List ℕ → Type 0
HasNoForeign script = position is_foreign script ≡ None

-- A mode ends that printed what was asked for, with status 0.
abbrev pub IsPrinted : ModeResult → Type 0
IsPrinted served = (served.ending ≡ Printed) × (served.faulty ≡ None)

-- A mode ends at the first fault of the script, and reports that line.
abbrev pub EndsAtFault : List ℕ → ModeResult → Type 0
EndsAtFault script served =
    (faulty : FaultyLine) × (served.ending ≡ Ran ScriptFault) × (served.faulty ≡ Some faulty) × IsFirstFault 1 true (lines_of script) faulty.number faulty.fault × IsLineOf 1 (lines_of script) faulty.number faulty.line.now

-- A text is written, and the mode ends; or a front of it is, and the write failed.
abbrev pub WritesText : Option (List ℕ) → Option (List ℕ) → List ℕ → Result ModeResult CliError → Type 0
WritesText before after text (Ok served) = Appends before after text × IsPrinted served
WritesText before after text (Err why) = AppendsFront before after text × (why ≡ Job fault.Write)

-- A text is written that begins with this name.
abbrev pub WritesAbout : Option (List ℕ) → Option (List ℕ) → List ℕ → Result ModeResult CliError → Type 0
WritesAbout before after name result = (text : List ℕ) × IsAbout name text × WritesText before after text result

-- The script is written with ? for its answers.
abbrev pub Blanks : Option (List ℕ) → Option (List ℕ) → List ℕ → Result ModeResult CliError → Type 0
Blanks before after script result = WritesText before after (blank script) result

-- The script is written with its questions.
abbrev pub Asks : Option (List ℕ) → Option (List ℕ) → List ℕ → Result ModeResult CliError → Type 0
Asks before after script result = WritesText before after (with_queries true (lines_of script)) result

-- ---- findings

-- the word for a finding
abbrev pub word_of : Finding → List ℕ
word_of finding.Accepted = codes "ACCEPTED"
word_of finding.Refused = codes "REFUSED"
word_of (finding.Undecided line) = codes "UNDECIDED"

-- The word for what is found of an output is written as a line, with details after it.
abbrev pub Judges : Option (List ℕ) → Option (List ℕ) → List ℕ → List ℕ → Result ModeResult CliError → Type 0
Judges before after script output (Ok served) =
    (found : Finding) × (text : List ℕ) × (outcome : Outcome) × (details : List ℕ) × IsFound script output text outcome found × Appends before after (word_of found ++ 10 ∷ details)
    × (served.ending ≡ Judged found) × (served.faulty ≡ None)
Judges before after script output (Err why) = (fault : RunFault) × (why ≡ Job fault)
