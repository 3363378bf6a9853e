-- What a consumer is given of a run, and what it writes.
use Rattle.std.specs.Prelude.{◌≡◌, ◌⊎◌, ℕ, ◌+◌, List, [], ◌∷◌, ◌++◌, length, Option, None, Result, Ok, Err, MatchResult, Bool, true, false}
use Rattle.std.specs.Io.KnownBytes.{Appends, Keeps}
use Rattle.mvs_model.specs.declared.line.Line.{Line}
use Rattle.mvs_model.specs.declared.outcome.Outcome.{Outcome}
use Rattle.mvs_model.specs.Job.{JobValue}
use Rattle.mvs_model.specs.declared.watched.Failed.{Failed}
use Rattle.line_text.specs.Writing.{AppendsFront}
use Rattle.mvs_job.specs.declared.printing.Stop.{Stop}
use Rattle.mvs_job.specs.declared.printing.Stop.TheVariants as stop
use Rattle.mvs_job.specs.declared.walk.LineEvent.{LineEvent}
use Rattle.mvs_job.specs.declared.walk.LineEvent.TheVariants as line_event
use Rattle.mvs_job.specs.LineEvents.{HasRequest, IsReadIn, WalkValue, closing, ended, events_of_line}
use Rattle.mvs_job.specs.Observing.{Hearing, ObservesLine}
use Rattle.mvs_job.specs.declared.consumer.End.{End}
use Rattle.mvs_job.specs.declared.consumer.End.TheVariants as end
use Rattle.mvs_job.specs.Trace.{Arrives, Ending, Ends, Entry, Exhausts, IsClosed, IsExecuted, IsExhausted, IsFaulty, IsTrace, Traces, step_after}

-- ---- an entry

-- What a consumer does with an entry: which texts it may write, by the entries before it, and whether it may need memory for it.
pub record Piece : Type 1 where
  pub may : List Entry → Entry → List ℕ → Type 0
  pub needs : Entry → Type 0

-- What is known of a consumer in a state: it was given these entries; and what is still true of it after a call for a further one
-- failed.
pub record Known (S : Type 0) : Type 1 where
  pub has : S → List Entry → Type 0
  pub had : S → List Entry → Type 0

-- An entry is of a line with this result: it is executed, or has a fault.
abbrev pub IsOfLine : LineEvent → ℕ → List ℕ → Entry → Type 0
IsOfLine (line_event.Faulted fault) number line e = IsFaulty number e.before line e
IsOfLine t number line e = IsExecuted number e.before line e

-- The entry is of the line with this number and this result, after which the job is in this state; the line was parsed before.
pub record IsEntry (number : ℕ) (line : List ℕ) (w : WalkValue) (t : LineEvent) (e : Entry) : Type 0 where
  pub read : IsReadIn e.before line w.read
  pub of_line : IsOfLine t number line e
  pub events : e.events ≡ events_of_line number w t
  pub after : e.after ≡ w.step
  pub request : HasRequest w t

-- The entry is the last one of a trace that ends so.
abbrev pub IsEnd : ℕ → End → Entry → Type 0
IsEnd number (end.Closed ended) e = ((outcome : Outcome) × IsClosed number e.before outcome e) × (e.events ≡ closing number ended)
IsEnd number (end.Exhausted end) e = ((line : List ℕ) × IsExhausted number e.before line e) × (e.events ≡ ended end)

-- The job is in the step before the last entry, if the trace is closed.
abbrev pub EndsIn : WalkValue → End → Entry → Type 0
EndsIn w (end.Closed ended) e = e.before ≡ w.step
EndsIn w (end.Exhausted end) e = Unit {0}

-- The entry comes after these: the step before it is the one after them.
abbrev pub Follows : List Entry → Entry → Type 0
Follows history e = e.before ≡ step_after history

-- A front of a piece for the entry is written between two moments of a writer.
abbrev pub WritesFront : Piece → Option (List ℕ) → Option (List ℕ) → List Entry → Entry → Type 0
WritesFront piece before after history e = (text : List ℕ) × piece.may history e text × AppendsFront before after text

-- A whole one is.
abbrev pub WritesPiece : Piece → Option (List ℕ) → Option (List ℕ) → List Entry → Entry → Type 0
WritesPiece piece before after history e = (text : List ℕ) × piece.may history e text × Appends before after text

-- What a call has written that stops: a front of a piece, if a write failed; nothing, if the consumer needs memory for the entry and
-- there is none.
abbrev pub WritesUntil : Piece → Option (List ℕ) → Option (List ℕ) → List Entry → Entry → Stop → Type 0
WritesUntil piece before after history e stop.Write = WritesFront piece before after history e
WritesUntil piece before after history e stop.Memory = piece.needs e × Keeps before after

-- What the call does that gives a consumer the entry of a line: it writes a piece, and has one entry more; or it stops.
abbrev pub Accepts : {S X : Type 0} → Piece → Known S → Option (List ℕ) → Option (List ℕ) → S → List Entry → Entry → Result X Stop → Type 0
Accepts piece knows before after s history e result =
    MatchResult result (λ _. WritesPiece piece before after history e × knows.has s (history ++ e ∷ [])) (λ why. WritesUntil piece before after history e why × knows.had s history)

-- It does so whatever entries it had, for each entry after them that its arguments describe: it has looked at what the line says, and
-- then it saw the refusal of its request, if there was one.
abbrev pub AcceptsLine : {S X : Type 0} → Piece → Hearing S → (S → Option JobValue → Line → Type 0) → Known S → Option (List ℕ) → Option (List ℕ) → S → S → ℕ → List ℕ → WalkValue → LineEvent → Result X Stop → Type 0
AcceptsLine {S = S} piece heard sees knows before after s s' number line w t result =
    (mid : S) (history : List Entry) (e : Entry) → IsEntry number line w t e → Follows history e → sees mid e.before w.read → ObservesLine heard mid e.before line t w s → knows.has mid history → Accepts piece knows before after s' history e result

-- What the call for the last entry does; it needs no memory.
abbrev pub AcceptsLast : {S X : Type 0} → Piece → Known S → Option (List ℕ) → Option (List ℕ) → S → List Entry → Entry → Result X Failed → Type 0
AcceptsLast piece knows before after s history e result =
    MatchResult result (λ _. WritesPiece piece before after history e × knows.has s (history ++ e ∷ [])) (λ _. WritesFront piece before after history e × knows.had s history)

-- It does so whatever entries it had, for each entry after them that its arguments describe.
abbrev pub AcceptsEnd : {S X : Type 0} → Piece → Known S → Option (List ℕ) → Option (List ℕ) → S → S → ℕ → WalkValue → End → Result X Failed → Type 0
AcceptsEnd piece knows before after s s' number w end result = (history : List Entry) (e : Entry) → IsEnd number end e → EndsIn w end e → Follows history e → knows.has s history → AcceptsLast piece knows before after s' history e result

-- ---- a run

-- A consumer may write this text for entries, after others.
abbrev pub WrittenAfter : Piece → List Entry → List Entry → List ℕ → Type 0
WrittenAfter piece history [] text = text ≡ []
WrittenAfter piece history (e ∷ entries) text = (one : List ℕ) × (rest : List ℕ) × piece.may history e one × WrittenAfter piece (history ++ e ∷ []) entries rest × (text ≡ one ++ rest)

-- It may write it for a trace.
abbrev pub WritesPieces : Piece → List Entry → List ℕ → Type 0
WritesPieces piece entries text = WrittenAfter piece [] entries text

-- The text is what a consumer writes for a trace of the script that stops so, and the consumer has its entries.
pub record IsWritten {S : Type 0} (piece : Piece) (knows : Known S) (script text : List ℕ) (how : Ending) (s : S) : Type 0 where
  pub entries : List Entry
  pub trace : IsTrace script entries how
  pub known : knows.has s entries
  pub is : WritesPieces piece entries text

-- The text is what a consumer writes for these entries, which are the first of a trace of the script, before this one.
pub record IsBegun (piece : Piece) (script text : List ℕ) (entries : List Entry) (next : Entry) : Type 0 where
  pub how : Ending
  pub rest : List Entry
  pub trace : IsTrace script (entries ++ next ∷ rest) how
  pub is : WritesPieces piece entries text

-- The text is what a consumer writes for the first entries of a trace of the script, which it has, and a front of a piece for the
-- next, or nothing.
pub record IsFront {S : Type 0} (piece : Piece) (knows : Known S) (script text : List ℕ) (s : S) : Type 0 where
  pub entries : List Entry
  pub next : Entry
  pub done : List ℕ
  pub front : List ℕ
  pub begun : IsBegun piece script done entries next
  pub known : knows.has s entries ⊎ knows.had s entries
  pub cut : (front ≡ []) ⊎ ((left : List ℕ) × piece.may entries next (front ++ left))
  pub is : text ≡ done ++ front

-- The text is what a consumer writes for the first entries of a trace of the script; for the next one it needs memory that there is not.
abbrev pub IsShort : {S : Type 0} → Piece → Known S → List ℕ → List ℕ → S → Type 0
IsShort piece knows script text s = (entries : List Entry) × (next : Entry) × piece.needs next × knows.had s entries × IsBegun piece script text entries next

-- What a run writes: it ends so, memory is exhausted, or a write fails.
abbrev pub Writes : {S : Type 0} → Piece → Known S → List ℕ → List ℕ → S → Result Outcome Stop → Type 0
Writes piece knows script text s (Ok outcome) = IsWritten piece knows script text (Ends outcome) s
Writes piece knows script text s (Err stop.Memory) = IsWritten piece knows script text Exhausts s ⊎ IsShort piece knows script text s
Writes piece knows script text s (Err stop.Write) = IsFront piece knows script text s

-- The text between two moments of a writer is what a run writes.
abbrev pub Leaves : {S : Type 0} → Piece → Known S → Option (List ℕ) → Option (List ℕ) → List ℕ → S → Result Outcome Stop → Type 0
Leaves piece knows before after script s result = (text : List ℕ) × Appends before after text × Writes piece knows script text s result

-- If nothing is known of a consumer, it may have been given any entries.
abbrev pub keeps_nothing : {S : Type 0} → S → Known S
keeps_nothing first = record { has = λ s entries. Unit {0}; had = λ s entries. Unit {0} }

-- The text that a run writes, whatever the consumer has.
abbrev pub WritesText : Piece → List ℕ → List ℕ → Result Outcome Stop → Type 0
WritesText piece script text result = Writes {S = Unit {0}} piece (keeps_nothing tt) script text tt result

abbrev pub LeavesText : Piece → Option (List ℕ) → Option (List ℕ) → List ℕ → Result Outcome Stop → Type 0
LeavesText piece before after script result = (text : List ℕ) × Appends before after text × WritesText piece script text result

-- After these lines a run is in this state: the text between two moments of a writer is what the consumer writes for their entries,
-- which it has.
pub record HasRun {S : Type 0} (piece : Piece) (knows : Known S) (before now : Option (List ℕ)) (lines : List (List ℕ)) (w : WalkValue) (s : S) : Type 0 where
  pub entries : List Entry
  pub trace : Traces (Arrives w.step) 1 None lines entries
  pub counted : w.number ≡ 1 + length lines
  pub text : List ℕ
  pub is : WritesPieces piece entries text
  pub appended : Appends before now text
  pub known : knows.has s entries

-- ---- a line

-- an entry of a line, however it went
abbrev pub IsAny : ℕ → Option JobValue → List ℕ → Entry → Type 0
IsAny number old line e = IsExecuted number old line e ⊎ IsFaulty number old line e ⊎ IsExhausted number old line e

-- What the call for a line does, where the consumer has these entries: the job continues, the line has a fault, memory is exhausted,
-- at the answer or in the consumer, or a write fails.
abbrev pub RunsEntry : {S : Type 0} → Piece → Known S → Option (List ℕ) → Option (List ℕ) → WalkValue → List ℕ → WalkValue → List Entry → S → Result Bool Stop → Type 0
RunsEntry piece knows before after w line new history s (Ok true) =
    (e : Entry) × IsExecuted w.number w.step line e × (e.after ≡ new.step) × WritesPiece piece before after history e × knows.has s (history ++ e ∷ [])
RunsEntry piece knows before after w line new history s (Ok false) =
    (e : Entry) × IsFaulty w.number w.step line e × WritesPiece piece before after history e × knows.has s (history ++ e ∷ [])
RunsEntry piece knows before after w line new history s (Err stop.Memory) =
    ((e : Entry) × IsExhausted w.number w.step line e × WritesPiece piece before after history e × knows.has s (history ++ e ∷ []))
    ⊎ ((e : Entry) × IsAny w.number w.step line e × piece.needs e × Keeps before after × knows.had s history)
RunsEntry piece knows before after w line new history s (Err stop.Write) =
    (e : Entry) × IsAny w.number w.step line e × WritesFront piece before after history e × knows.had s history

-- It does so whatever entries the consumer has that lead to the step of the job.
abbrev pub RunsNext : {S : Type 0} → Piece → Known S → Option (List ℕ) → Option (List ℕ) → WalkValue → List ℕ → WalkValue → S → S → Result Bool Stop → Type 0
RunsNext piece knows before after w line new s s' result = (history : List Entry) → w.step ≡ step_after history → knows.has s history → RunsEntry piece knows before after w line new history s' result

-- What the call for the end of the script does, where the consumer has these entries: the job ends so, or a write fails.
abbrev pub RunsEnd : {S : Type 0} → Piece → Known S → Option (List ℕ) → Option (List ℕ) → WalkValue → List Entry → S → Result Outcome Stop → Type 0
RunsEnd piece knows before after w history s (Ok outcome) =
    (e : Entry) × IsClosed w.number w.step outcome e × WritesPiece piece before after history e × knows.has s (history ++ e ∷ [])
RunsEnd piece knows before after w history s (Err stop.Memory) = ⊥
RunsEnd piece knows before after w history s (Err stop.Write) =
    (outcome : Outcome) × (e : Entry) × IsClosed w.number w.step outcome e × WritesFront piece before after history e × knows.had s history

-- It does so whatever entries the consumer has that lead to the step of the job.
abbrev pub RunsLast : {S : Type 0} → Piece → Known S → Option (List ℕ) → Option (List ℕ) → WalkValue → S → S → Result Outcome Stop → Type 0
RunsLast piece knows before after w s s' result = (history : List Entry) → w.step ≡ step_after history → knows.has s history → RunsEnd piece knows before after w history s' result
