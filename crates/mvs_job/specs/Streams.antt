-- A job that takes its script as it comes.
use Rattle.std.specs.Prelude.{◌≡◌, ◌⊎◌, ℕ, ◌+◌, ◌≤◌, List, None, ◌++◌, length, take, ◌<◌, Option, Result, Ok, Err, Bool, MatchBool, MatchOption, MatchResult}
use Rattle.std.specs.List.{AllByRecursion}
use Rattle.std.specs.Io.KnownBytes.{Appends, Consumes}
use Rattle.mvs_model.specs.declared.outcome.Outcome.{Outcome}
use Rattle.mvs_model.specs.declared.outcome.Outcome.TheVariants.{ScriptFault}
use Rattle.mvs_model.specs.Lines.{ended_text, IsUnended}
use Rattle.mvs_model.specs.Job.{JobValue}
use Rattle.mvs_model.specs.Runs.{IsPrinting, IsPrintingFront}
use Rattle.mvs_model.specs.Memory.{IsPrintingBefore}
use Rattle.mvs_model.specs.Numbers.{most_script_bytes}
use Rattle.mvs_job.specs.declared.printing.Stop.{Stop}
use Rattle.mvs_job.specs.declared.printing.Stop.TheVariants as stop
use Rattle.mvs_job.specs.declared.run.RunFault.{RunFault}
use Rattle.mvs_job.specs.declared.run.RunFault.TheVariants.{Read, Write, Memory, ReadTooLong}
use Rattle.mvs_job.specs.declared.stream.Progress.{Progress}
use Rattle.mvs_job.specs.declared.stream.Progress.TheVariants.{On, Ended}
use Rattle.mvs_job.specs.Consuming.{HasRun, IsFront, IsShort, IsWritten, Known, Leaves, Piece, WritesPieces, keeps_nothing}
use Rattle.mvs_job.specs.Exchanging.{Exchanges}
use Rattle.mvs_job.specs.LineEvents.{WalkValue}
use Rattle.mvs_job.specs.Trace.{Arrives, Ends, Entry, Exhausts, Traces}

-- the whole printing, or a front of one
abbrev pub Printed : Option (List ℕ) → Option (List ℕ) → List ℕ → Outcome → Type 0
Printed start now script outcome = (written : List ℕ) × Appends start now written × IsPrinting script written outcome

abbrev pub PrintedFront : Option (List ℕ) → Option (List ℕ) → List ℕ → Type 0
PrintedFront start now script = (written : List ℕ) × Appends start now written × IsPrintingFront script written

-- the whole printing before the reply to a statement that takes memory, which is a front as well
abbrev pub PrintedBefore : Option (List ℕ) → Option (List ℕ) → List ℕ → Type 0
PrintedBefore start now script = (written : List ℕ) × Appends start now written × IsPrintingFront script written × IsPrintingBefore script written

-- the text when the job stopped
abbrev pub PrintedUpTo : Stop → Option (List ℕ) → Option (List ℕ) → List ℕ → Type 0
PrintedUpTo stop.Write start now script = PrintedFront start now script
PrintedUpTo stop.Memory start now script = PrintedBefore start now script

-- After the consumed bytes the job is in this state: the complete lines in them have run, the text between the two moments of the
-- writer is what the consumer writes for them, and these bytes of an incomplete line are pending.
pub record HasConsumed (piece : Piece) {S : Type 0} (knows : Known S) (start now : Option (List ℕ)) (consumed : List ℕ) (w : WalkValue) (pending : List ℕ) (s : S) : Type 0 where
  pub lines : List (List ℕ)
  pub cut : consumed ≡ ended_text lines ++ pending
  pub each : AllByRecursion IsUnended lines
  pub unended : IsUnended pending
  pub run : HasRun piece knows start now lines w s

-- The effect of the next bytes on a job, which is in the second state then: it continues after them, or a line had a fault, or it
-- stops. The script may go on with any bytes.
abbrev pub Feeds : {S : Type 0} → Piece → Known S → Option (List ℕ) → Option (List ℕ) → List ℕ → WalkValue → List ℕ → S → WalkValue → List ℕ → S → Result Bool Stop → Type 0
Feeds piece knows before after bytes w pending s w' pending' s' result =
    (start : Option (List ℕ)) (consumed : List ℕ) → HasConsumed piece knows start before consumed w pending s → MatchResult result
    (λ continues. MatchBool continues (HasConsumed piece knows start after (consumed ++ bytes) w' pending' s') ((more : List ℕ) → Leaves piece knows start after (consumed ++ (bytes ++ more)) s' (Ok ScriptFault)))
    (λ stop. (more : List ℕ) → Leaves piece knows start after (consumed ++ (bytes ++ more)) s' (Err stop))

-- The effect of the first of some bytes, as many as the result says.
abbrev pub FeedsSome : {S : Type 0} → Piece → Known S → Option (List ℕ) → Option (List ℕ) → List ℕ → WalkValue → List ℕ → S → WalkValue → List ℕ → S → Result (Option ℕ) Stop → Type 0
FeedsSome piece knows before after bytes w pending s w' pending' s' result =
    (start : Option (List ℕ)) (consumed : List ℕ) → HasConsumed piece knows start before consumed w pending s → MatchResult result
    (λ used. MatchOption used ((more : List ℕ) → Leaves piece knows start after (consumed ++ (bytes ++ more)) s' (Ok ScriptFault)) (λ n. HasConsumed piece knows start after (consumed ++ take n bytes) w' pending' s'))
    (λ stop. (more : List ℕ) → Leaves piece knows start after (consumed ++ (bytes ++ more)) s' (Err stop))

-- The effect of the end of the script.
abbrev pub Finishes : {S : Type 0} → Piece → Known S → Option (List ℕ) → Option (List ℕ) → WalkValue → List ℕ → S → S → Result Outcome Stop → Type 0
Finishes piece knows before after w pending s s' result = (start : Option (List ℕ)) (consumed : List ℕ) → HasConsumed piece knows start before consumed w pending s → Leaves piece knows start after consumed s' result

-- Of the unread bytes, count were consumed, and the job is after them. An incomplete line is not too long yet.
abbrev pub IsUnderWay : {S : Type 0} → Piece → Known S → Option (List ℕ) → Option (List ℕ) → Option (List ℕ) → Option (List ℕ) → ℕ → WalkValue → List ℕ → S → Type 0
IsUnderWay piece knows unread left start now count w pending s =
    (consumed : List ℕ) × Consumes unread left consumed × (length consumed ≡ count) × HasConsumed piece knows start now consumed w pending s × (length pending < 256)

-- All lines that have ended in some bytes of a script have run, and the text is what the consumer writes for them. The rest may still
-- become a line.
pub record HasAnswered (piece : Piece) {S : Type 0} (knows : Known S) (consumed text : List ℕ) (s : S) : Type 0 where
  pub lines : List (List ℕ)
  pub pending : List ℕ
  pub cut : consumed ≡ ended_text lines ++ pending
  pub each : AllByRecursion IsUnended lines
  pub unended : IsUnended pending
  pub short : length pending < 256
  pub entries : List Entry
  pub step : Option JobValue
  pub trace : Traces (Arrives step) 1 None lines entries
  pub known : knows.has s entries
  pub is : WritesPieces piece entries text

-- What a run has written that stopped for a fault, after at most a number of bytes was consumed, or one more if the script is too long.
abbrev pub GivesUp : {S : Type 0} → Piece → Known S → ℕ → List ℕ → List ℕ → List ℕ → S → RunFault → Type 0
GivesUp piece knows most consumed script text s Memory = (length consumed ≤ most) × (IsWritten piece knows script text Exhausts s ⊎ IsShort piece knows script text s)
GivesUp piece knows most consumed script text s Write = (length consumed ≤ most) × IsFront piece knows script text s
GivesUp piece knows most consumed script text s Read = (length consumed ≤ most) × IsFront piece knows script text s × HasAnswered piece knows consumed text s
GivesUp piece knows most consumed script text s ReadTooLong = (length consumed ≡ most + 1) × IsFront piece knows script text s × HasAnswered piece knows (take most consumed) text s

-- The text when the job stopped for a fault, whatever the consumer has; of the script these bytes were consumed.
abbrev pub StopsText : Piece → List ℕ → List ℕ → List ℕ → RunFault → Type 0
StopsText piece consumed script text fault = GivesUp {S = Unit {0}} piece (keeps_nothing tt) most_script_bytes consumed script text tt fault

-- The job ended so, after at most a number of bytes was consumed.
abbrev pub HasEnded : {S : Type 0} → Piece → Known S → Option (List ℕ) → Option (List ℕ) → Option (List ℕ) → Option (List ℕ) → ℕ → S → Outcome → Type 0
HasEnded piece knows unread left start now most s outcome =
    Exchanges unread left start now (λ consumed script text. (length consumed ≤ most) × IsWritten piece knows script text (Ends outcome) s)

-- The job stopped for a fault.
abbrev pub HasGivenUp : {S : Type 0} → Piece → Known S → Option (List ℕ) → Option (List ℕ) → Option (List ℕ) → Option (List ℕ) → ℕ → S → RunFault → Type 0
HasGivenUp piece knows unread left start now most s fault = Exchanges unread left start now (λ consumed script text. GivesUp piece knows most consumed script text s fault)

-- The effect of one read of at most a number of bytes on a job that had consumed count bytes.
abbrev pub Takes : {S : Type 0} → Piece → Known S → Option (List ℕ) → Option (List ℕ) → Option (List ℕ) → Option (List ℕ) → ℕ → ℕ → WalkValue → List ℕ → S → Progress → Type 0
Takes piece knows unread left start now count room w pending s (On n) = IsUnderWay piece knows unread left start now (count + n) w pending s
Takes piece knows unread left start now count room w pending s (Ended outcome) = HasEnded piece knows unread left start now (count + room) s outcome

-- The effect of one read of at most a number of bytes on a job under way, which is in the second state then: it takes the bytes, or it
-- stops for a fault.
abbrev pub ReadsOnce : {S : Type 0} → Piece → Known S → Option (List ℕ) → Option (List ℕ) → Option (List ℕ) → Option (List ℕ) → ℕ → WalkValue → List ℕ → S → WalkValue → List ℕ → S → Result Progress RunFault → Type 0
ReadsOnce piece knows left left' before after room w pending s w' pending' s' result =
    (unread start : Option (List ℕ)) (count : ℕ) → IsUnderWay piece knows unread left start before count w pending s → MatchResult result
    (λ progress. Takes piece knows unread left' start after count room w' pending' s' progress)
    (λ fault. HasGivenUp piece knows unread left' start after (count + room) s' fault)

-- The effect of the last read on a job under way: the job ends, or it stops for a fault.
abbrev pub ReadsLast : {S : Type 0} → Piece → Known S → Option (List ℕ) → Option (List ℕ) → Option (List ℕ) → Option (List ℕ) → WalkValue → List ℕ → S → S → Result Outcome RunFault → Type 0
ReadsLast piece knows left left' before after w pending s s' result =
    (unread start : Option (List ℕ)) (count : ℕ) → IsUnderWay piece knows unread left start before count w pending s → MatchResult result
    (λ outcome. HasEnded piece knows unread left' start after count s' outcome)
    (λ fault. HasGivenUp piece knows unread left' start after count s' fault)

-- the error of a job that stops
abbrev pub fault_of : Stop → RunFault
fault_of stop.Write = Write
fault_of stop.Memory = Memory
