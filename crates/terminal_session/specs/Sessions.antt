-- What a session makes of the lines that are typed, and what it writes.
use Rattle.std.specs.Prelude.{ℕ, ◌≡◌, ◌≢◌, ◌⊎◌, ◌+◌, ◌-◌, ◌<◌, ◌≤◌, ◌&&◌, Bool, true, false, if◌then◌else◌, nat_lt, is_some, List, [], ◌∷◌, ◌++◌, length, take, Option, None, Result, Ok, Err, MatchBool, MatchResult}
use Rattle.std.specs.List.{AllByRecursion}
use Rattle.std.specs.Io.KnownBytes.{Appends, Consumes}
use Rattle.mvs_model.specs.declared.outcome.Outcome.{Outcome}
use Rattle.mvs_model.specs.declared.outcome.Outcome.TheVariants.{ScriptFault}
use Rattle.mvs_model.specs.Job.{JobValue}
use Rattle.mvs_model.specs.Lines.{IsUnended, ended_text, lines_of}
use Rattle.mvs_model.specs.Numbers.{most_script_bytes}
use Rattle.mvs_model.specs.Reading.{checks, first_of}
use Rattle.mvs_model.specs.Walk.{is_first}
use Rattle.mvs_job.specs.declared.printing.Stop.{Stop}
use Rattle.mvs_job.specs.declared.printing.Stop.TheVariants as stop
use Rattle.mvs_job.specs.declared.run.RunFault.{RunFault}
use Rattle.mvs_job.specs.declared.run.RunFault.TheVariants.{Memory, Read, ReadTooLong, Write}
use Rattle.mvs_job.specs.Consuming.{HasRun, Known, Leaves, Piece, WritesPieces}
use Rattle.mvs_job.specs.LineEvents.{WalkValue}
use Rattle.mvs_job.specs.Trace.{Arrives, Entry, Traces}
use Rattle.shell.specs.Cleaning.{cleaned}
use Rattle.shell.specs.Inputs.{InputValue}
use Rattle.shell.specs.Scripts.{are_blank}
use Rattle.shell.specs.Edits.{is_command, edit_of}
use Rattle.shell.specs.declared.cleaning.CleaningState.TheVariants.{Text}
use Rattle.shell.specs.declared.edit.ScriptEdit.{ScriptEdit}
use Rattle.shell.specs.declared.edit.ScriptEdit.TheVariants.{Open, Quit, Reset, Stays, Undo}
use Rattle.terminal_session.specs.declared.session.JobStop.{JobStop}
use Rattle.terminal_session.specs.declared.session.JobStop.TheVariants.{Again, Ended}

-- A session: what was read, the lines of its job, and whether what keys put into lines is removed.
pub record SessionValue (R : Type 0) : Type 0 where
  pub input : InputValue R
  pub script : List (List ℕ)
  pub cleans : Bool

-- ---- the lines of the job

-- whether a line has a fault, if no statement came before it, or one did
unfoldable pub is_faulty : Bool → List ℕ → Bool
is_faulty first line = is_some (first_of (checks first line))

-- the lines of the job and one more, which is skipped if it has a fault
abbrev pub with_line : List (List ℕ) → List ℕ → List (List ℕ)
with_line lines l = if is_faulty (are_blank lines) l then lines else lines ++ l ∷ []

-- the lines of the job and others
abbrev pub with_lines : List (List ℕ) → List (List ℕ) → List (List ℕ)
with_lines lines [] = lines
with_lines lines (l ∷ more) = with_lines (with_line lines l) more

-- What a command makes of the lines of the job. Those of a file replace them, if it can be read.
abbrev pub EditsLines : ScriptEdit → List (List ℕ) → List (List ℕ) → Type 0
EditsLines Stays lines new = new ≡ lines
EditsLines (Undo n) lines new = new ≡ take (length lines - n) lines
EditsLines Reset lines new = new ≡ []
EditsLines Open lines new = (new ≡ lines) ⊎ ((file : List ℕ) × (new ≡ with_lines [] (lines_of file)))
EditsLines Quit lines new = new ≡ lines

-- the first bytes of a line without what keys of a terminal put into it, if they are the whole line
abbrev pub without_keys : Bool → List ℕ → List ℕ
without_keys cleans first = if cleans && nat_lt (length first) 256 then cleaned Text first else first

-- the text of a typed line
abbrev pub text_of : Bool → List ℕ → List ℕ
text_of cleans line = without_keys cleans (take 256 line)

-- What a typed line makes of the lines of the job.
abbrev pub Makes : Bool → List (List ℕ) → List ℕ → List (List ℕ) → Type 0
Makes cleans lines line new = MatchBool (is_command (text_of cleans line)) (EditsLines (edit_of (text_of cleans line)) lines new) (new ≡ with_line lines (text_of cleans line))

-- What typed lines make of them, one after the other.
abbrev pub MakesAll : Bool → List (List ℕ) → List (List ℕ) → List (List ℕ) → Type 0
MakesAll cleans lines [] new = new ≡ lines
MakesAll cleans lines (line ∷ typed) new = (mid : List (List ℕ)) × Makes cleans lines line mid × MakesAll cleans mid typed new

-- The typed line is a command that does not leave the lines of the job as they are, or ends it.
abbrev pub IsEdit : Bool → List ℕ → Type 0
IsEdit cleans line = (is_command (text_of cleans line) ≡ true) × (edit_of (text_of cleans line) ≢ Stays)

abbrev pub IsQuit : Bool → List ℕ → Type 0
IsQuit cleans line = (is_command (text_of cleans line) ≡ true) × (edit_of (text_of cleans line) ≡ Quit)

-- ---- what was read

-- These lines were read. The last may lack its end, if the reader is at its end.
abbrev pub IsTyped : Option (List ℕ) → Option (List ℕ) → Bool → List (List ℕ) → Type 0
IsTyped unread left ended typed =
    (bytes : List ℕ) × Consumes unread left bytes × AllByRecursion IsUnended typed
    × ((bytes ≡ ended_text typed) ⊎ ((ended ≡ true) × (bytes ++ 10 ∷ [] ≡ ended_text typed)))

-- These lines were read, and then perhaps further bytes.
abbrev pub IsTypedFirst : Option (List ℕ) → Option (List ℕ) → List (List ℕ) → Type 0
IsTypedFirst unread left typed =
    (bytes : List ℕ) × Consumes unread left bytes × AllByRecursion IsUnended typed
    × (((more : List ℕ) × (bytes ≡ ended_text typed ++ more)) ⊎ (bytes ++ 10 ∷ [] ≡ ended_text typed))

-- ---- what was written

-- The text between two moments of a writer is what a consumer writes for these lines, which are all executed.
abbrev pub RunsLines : Piece → Option (List ℕ) → Option (List ℕ) → List (List ℕ) → Type 0
RunsLines piece before after lines =
    (step : Option JobValue) × (entries : List Entry) × Traces (Arrives step) 1 None lines entries
    × (text : List ℕ) × WritesPieces piece entries text × Appends before after text

-- A line of a job has a fault, where those before it are executed.
abbrev pub HasFault : List (List ℕ) → Type 0
HasFault lines =
    (before : List (List ℕ)) × (line : List ℕ) × (after : List (List ℕ)) × (lines ≡ before ++ line ∷ after)
    × (step : Option JobValue) × (entries : List Entry) × Traces (Arrives step) 1 None before entries × (is_faulty (is_first step) line ≡ true)

-- What a job with these lines has written when it stops with an error: what a run of them writes up to there, or all that they
-- write, if there is no memory or no room for a further line or a read failed.
abbrev pub StopsAt : {S : Type 0} → Piece → Known S → Option (List ℕ) → Option (List ℕ) → ℕ → List (List ℕ) → S → RunFault → Type 0
StopsAt piece knows before after count lines s Memory = Leaves piece knows before after (ended_text lines) s (Err stop.Memory) ⊎ RunsLines piece before after lines
StopsAt piece knows before after count lines s Write = Leaves piece knows before after (ended_text lines) s (Err stop.Write)
StopsAt piece knows before after count lines s Read = RunsLines piece before after lines
StopsAt piece knows before after count lines s ReadTooLong =
    RunsLines piece before after lines × ((most_script_bytes < count) ⊎ (most_script_bytes ≤ length (ended_text lines) + 256))

-- ---- a run of the job

-- Why a run of the job ends: the reader is at its end, the last typed line is `.quit`, or a line has a fault.
abbrev pub IsOver : Bool → Bool → List (List ℕ) → List (List ℕ) → Type 0
IsOver cleans ended typed lines =
    (ended ≡ true) ⊎ ((first : List (List ℕ)) × (last : List ℕ) × (typed ≡ first ++ last ∷ []) × IsQuit cleans last) ⊎ HasFault lines

-- How the run of a job with some lines ends, to which more are typed.
abbrev pub Stops : {S : Type 0} → Piece → Known S → Bool → Option (List ℕ) → Option (List ℕ) → Option (List ℕ) → Option (List ℕ) → Bool → List (List ℕ) → List (List ℕ) → S → JobStop → Type 0
Stops piece knows cleans unread left before after ended lines new s (Ended outcome) =
    (typed : List (List ℕ)) × IsTyped unread left ended typed × MakesAll cleans lines typed new × IsOver cleans ended typed new
    × Leaves piece knows before after (ended_text new) s (Ok outcome)
Stops piece knows cleans unread left before after ended lines new s Again =
    (typed : List (List ℕ)) × (last : List ℕ) × (mid : List (List ℕ)) × IsTyped unread left ended (typed ++ last ∷ []) × MakesAll cleans lines typed mid
    × IsEdit cleans last × Makes cleans mid last new × RunsLines piece before after mid

-- How it stops with an error, after this number of bytes was read.
abbrev pub Fails : {S : Type 0} → Piece → Known S → Bool → Option (List ℕ) → Option (List ℕ) → Option (List ℕ) → Option (List ℕ) → ℕ → List (List ℕ) → S → RunFault → Type 0
Fails piece knows cleans unread left before after count lines s fault =
    (typed : List (List ℕ)) × (mid : List (List ℕ)) × IsTypedFirst unread left typed × MakesAll cleans lines typed mid
    × StopsAt piece knows before after count mid s fault

-- A job under way: these lines were typed, and those of the job are executed.
pub record IsUnderWay {S : Type 0} (piece : Piece) (knows : Known S) (cleans : Bool) (unread left before now : Option (List ℕ)) (ended : Bool) (lines mid : List (List ℕ)) (w : WalkValue) (s : S) : Type 0 where
  pub typed : List (List ℕ)
  pub read : IsTyped unread left ended typed
  pub makes : MakesAll cleans lines typed mid
  pub each : AllByRecursion IsUnended mid
  pub run : HasRun piece knows before now mid w s

-- What the run of all these lines, from the first of a job on, leads to.
abbrev pub Replays : {S : Type 0} → Piece → Known S → Option (List ℕ) → Option (List ℕ) → List (List ℕ) → WalkValue → S → Result Bool Stop → Type 0
Replays piece knows before after lines w s (Ok true) = HasRun piece knows before after lines w s
Replays piece knows before after lines w s (Ok false) = HasFault lines × Leaves piece knows before after (ended_text lines) s (Ok ScriptFault)
Replays piece knows before after lines w s (Err why) = Leaves piece knows before after (ended_text lines) s (Err why)
