-- What one typed line does to a job.
use Rattle.std.specs.Prelude.{◌≡◌, ◌≢◌, ◌⊎◌, ◌+◌, ◌<◌, ◌≤◌, ℕ, nat_lt, if◌then◌else◌, Bool, true, false, List, [], Option, Some, None, Result, Ok, Err, IfErr, IfOk}
use Rattle.std.specs.List.{AllByRecursion}
use Rattle.std.specs.Io.KnownBytes.{Consumes}
use Rattle.mvs_model.specs.Lines.{IsUnended}
use Rattle.mvs_model.specs.Numbers.{most_script_bytes}
use Rattle.mvs_job.specs.declared.run.RunFault.{RunFault}
use Rattle.mvs_job.specs.declared.run.RunFault.TheVariants.{Memory, Read, ReadTooLong, Write}
use Rattle.mvs_job.specs.declared.printing.Stop.{Stop}
use Rattle.mvs_job.specs.Consuming.{HasRun, Known, Piece, RunsLast}
use Rattle.mvs_job.specs.LineEvents.{WalkValue}
use Rattle.mvs_job.specs.Streams.{fault_of}
use Rattle.shell.specs.Inputs.{InputValue, ReadsLine}
use Rattle.shell.specs.declared.edit.ScriptEdit.{ScriptEdit}
use Rattle.shell.specs.declared.edit.ScriptEdit.TheVariants as edit
use Rattle.terminal_session.specs.declared.session.JobStop.{JobStop}
use Rattle.terminal_session.specs.declared.session.JobStop.TheVariants as stopped
use Rattle.terminal_session.specs.declared.session.Step.{Step}
use Rattle.terminal_session.specs.declared.session.Step.TheVariants.{Again, Next, Quit}
use Rattle.terminal_session.specs.Sessions.{Fails, IsOver, IsUnderWay, SessionValue, Stops, StopsAt, EditsLines, text_of, with_line}

-- why a line could not be read, after this number of bytes was read
abbrev pub read_fault : ℕ → RunFault
read_fault count = if nat_lt most_script_bytes count then ReadTooLong else Read

-- What a read of a line finds: it has this text, or there is none; or it fails.
abbrev pub Awaits : {R : Type 0} → Bool → Option (List ℕ) → Option (List ℕ) → InputValue R → InputValue R → List ℕ → Result Bool RunFault → Type 0
Awaits cleans unread left old new text (Ok true) =
    (line : List ℕ) × IsUnended line × (text ≡ text_of cleans line) × (old.ended ≡ false) × ReadsLine unread left new.ended line
    × (old.count < new.count) × (new.count ≤ most_script_bytes + 1)
Awaits cleans unread left old new text (Ok false) = (new.ended ≡ true) × Consumes unread left []
Awaits cleans unread left old new text (Err fault) =
    ((part : List ℕ) × Consumes unread left part × (old.ended ≡ true → part ≡ [])) × ((fault ≡ Read) ⊎ ((fault ≡ ReadTooLong) × (most_script_bytes < new.count)))

-- What a command does to the lines of the job.
abbrev pub Obeys : ScriptEdit → List (List ℕ) → List (List ℕ) → Step → Type 0
Obeys t lines new Next = EditsLines t lines new × (new ≡ lines)
Obeys t lines new Again = EditsLines t lines new × (t ≢ edit.Stays)
Obeys t lines new Quit = EditsLines t lines new × (t ≡ edit.Quit)

-- how the call goes on that runs a line without a fault
abbrev pub continued : Result (Unit {0}) Stop → Result Bool Stop
continued (Ok x) = Ok true
continued (Err why) = Err why

-- What a line does that is no command, where these lines of the job are executed.
abbrev pub Accepted : {S : Type 0} → Piece → Known S → Option (List ℕ) → Option (List ℕ) → ℕ → List (List ℕ) → List ℕ → List (List ℕ) → WalkValue → S → Result Step RunFault → Type 0
Accepted piece knows before after count lines line new w s (Ok Next) = (new ≡ with_line lines line) × AllByRecursion IsUnended new × HasRun piece knows before after new w s
Accepted piece knows before after count lines line new w s (Ok Again) = ⊥
Accepted piece knows before after count lines line new w s (Ok Quit) = ⊥
Accepted piece knows before after count lines line new w s (Err fault) =
    (mid : List (List ℕ)) × ((mid ≡ lines) ⊎ (mid ≡ with_line lines line)) × StopsAt piece knows before after count mid s fault

abbrev pub Accepts : {S : Type 0} → Piece → Known S → Option (List ℕ) → Option (List ℕ) → Option (List ℕ) → ℕ → List (List ℕ) → List ℕ → WalkValue → S → List (List ℕ) → WalkValue → S → Result Step RunFault → Type 0
Accepts piece knows before now after count lines line w s new w' s' result =
    AllByRecursion IsUnended lines → HasRun piece knows before now lines w s → Accepted piece knows before after count lines line new w' s' result

-- What a typed line does to a job that is under way.
abbrev pub Steps : {S : Type 0} → Piece → Known S → Bool → Option (List ℕ) → Option (List ℕ) → Option (List ℕ) → Option (List ℕ) → Bool → ℕ → List (List ℕ) → List (List ℕ) → WalkValue → S → Result Step RunFault → Type 0
Steps piece knows cleans unread left before after ended count lines new w s (Ok Next) = IsUnderWay piece knows cleans unread left before after ended lines new w s
Steps piece knows cleans unread left before after ended count lines new w s (Ok Quit) =
    (job : IsUnderWay piece knows cleans unread left before after ended lines new w s) × IsOver cleans ended job.typed new
Steps piece knows cleans unread left before after ended count lines new w s (Ok Again) = Stops piece knows cleans unread left before after ended lines new s stopped.Again
Steps piece knows cleans unread left before after ended count lines new w s (Err fault) = Fails piece knows cleans unread left before after count lines s fault

-- What a typed line does to a session whose job is under way, whatever was typed before.
abbrev pub StepsFrom : {R S : Type 0} → (R → Option (List ℕ)) → Piece → Known S → SessionValue R → SessionValue R → Option (List ℕ) → Option (List ℕ) → WalkValue → WalkValue → S → S → Result Step RunFault → Type 0
StepsFrom remaining piece knows old new now after w w' s s' result =
    (unread before : Option (List ℕ)) (lines : List (List ℕ)) → IsUnderWay piece knows old.cleans unread (remaining old.input.inner.inner) before now old.input.ended lines old.script w s
    → Steps piece knows old.cleans unread (remaining new.input.inner.inner) before after new.input.ended new.input.count lines new.script w' s' result

-- How the run of a job that is under way ends, after further lines are typed.
abbrev pub StopsFrom : {R S : Type 0} → (R → Option (List ℕ)) → Piece → Known S → SessionValue R → SessionValue R → Option (List ℕ) → Option (List ℕ) → WalkValue → S → S → Result JobStop RunFault → Type 0
StopsFrom remaining piece knows old new now after w s s' result =
    (unread before : Option (List ℕ)) (lines : List (List ℕ)) → IsUnderWay piece knows old.cleans unread (remaining old.input.inner.inner) before now old.input.ended lines old.script w s
    → IfOk result (Stops piece knows old.cleans unread (remaining new.input.inner.inner) before after new.input.ended lines new.script s')

-- How it stops with an error.
abbrev pub FailsFrom : {R S : Type 0} → (R → Option (List ℕ)) → Piece → Known S → SessionValue R → SessionValue R → Option (List ℕ) → Option (List ℕ) → WalkValue → S → S → Result JobStop RunFault → Type 0
FailsFrom remaining piece knows old new now after w s s' result =
    (unread before : Option (List ℕ)) (lines : List (List ℕ)) → IsUnderWay piece knows old.cleans unread (remaining old.input.inner.inner) before now old.input.ended lines old.script w s
    → IfErr result (Fails piece knows old.cleans unread (remaining new.input.inner.inner) before after new.input.count lines s')

-- What the end of a job does.
abbrev pub EndsJob : {S : Type 0} → Piece → Known S → Option (List ℕ) → Option (List ℕ) → WalkValue → S → S → Result JobStop RunFault → Type 0
EndsJob piece knows before after w s new (Ok (stopped.Ended outcome)) = RunsLast piece knows before after w s new (Ok outcome)
EndsJob piece knows before after w s new (Ok stopped.Again) = ⊥
EndsJob piece knows before after w s new (Err fault) = (why : Stop) × (fault ≡ fault_of why) × RunsLast piece knows before after w s new (Err why)
