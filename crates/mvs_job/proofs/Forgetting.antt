-- What a run leaves, whatever its consumer has.
use Rattle.std.proofs.Common.{ℕ, ◌≤◌, ◌++◌, List, length, inl, inr, Option, Result, Ok, Err}
use Rattle.mvs_model.specs.declared.outcome.Outcome.{Outcome}
use Rattle.mvs_job.specs.declared.printing.Stop.{Stop}
use Rattle.mvs_job.specs.declared.printing.Stop.TheVariants as stop
use Rattle.mvs_job.specs.declared.run.RunFault.{RunFault}
use Rattle.mvs_job.specs.declared.run.RunFault.TheVariants.{Read, Write, Memory, ReadTooLong}
use Rattle.mvs_job.specs.Consuming.{IsFront, IsWritten, Known, Leaves, LeavesText, Piece, Writes, WritesText, keeps_nothing}
use Rattle.mvs_job.specs.Exchanging.{Exchanges}
use Rattle.mvs_job.specs.Streams.{GivesUp, HasAnswered, HasEnded, HasGivenUp, StopsText}
use Rattle.mvs_job.specs.Trace.{Ending, Ends, Exhausts}

module _ {S : Type 0} (piece : Piece) (knows : Known S) where
  module _ (script text : List ℕ) (s : S) where
    written : (how : Ending) → IsWritten piece knows script text how s → IsWritten {S = Unit {0}} piece (keeps_nothing tt) script text how tt
    written how w = record { entries = w.entries; trace = w.trace; known = tt; is = w.is }

    front : IsFront piece knows script text s → IsFront {S = Unit {0}} piece (keeps_nothing tt) script text tt
    front w = record { entries = w.entries; next = w.next; done = w.done; front = w.front; begun = w.begun; known = inl tt; cut = w.cut; is = w.is }

    pub text_of : (r : Result Outcome Stop) → Writes piece knows script text s r → WritesText piece script text r
    text_of (Ok outcome) w = written (Ends outcome) w
    text_of (Err stop.Write) w = front w
    text_of (Err stop.Memory) (inl w) = inl (written Exhausts w)
    text_of (Err stop.Memory) (inr (entries, next, needs, known, begun)) = inr (entries, next, needs, tt, begun)

  pub left_text : (before after : Option (List ℕ)) (script : List ℕ) (s : S) (r : Result Outcome Stop) → Leaves piece knows before after script s r → LeavesText piece before after script r
  left_text before after script s r (text, a, w) = (text, a, text_of script text s r w)

  pub stopped_text : (before after : Option (List ℕ)) (script : List ℕ) (s : S) (why : Stop) → Leaves piece knows before after script s (Err why) → LeavesText piece before after script (Err why)
  stopped_text before after script s why w = left_text before after script s (Err why) w

  -- ---- a script that is read

  answered : (consumed text : List ℕ) (s : S) → HasAnswered piece knows consumed text s → HasAnswered piece (keeps_nothing {S = Unit {0}} tt) consumed text tt
  answered consumed text s h = record { lines = h.lines; pending = h.pending; cut = h.cut; each = h.each; unended = h.unended; short = h.short; entries = h.entries; step = h.step; trace = h.trace; known = tt; is = h.is }

  gives_up : (consumed script text : List ℕ) (s : S) (fault : RunFault) → GivesUp piece knows 16777215 consumed script text s fault → StopsText piece consumed script text fault
  gives_up consumed script text s Memory (few, inl w) = (few, inl (written script text s Exhausts w))
  gives_up consumed script text s Memory (few, inr (entries, next, needs, known, begun)) = (few, inr (entries, next, needs, tt, begun))
  gives_up consumed script text s Write h = (h.0, front script text s h.1)
  gives_up consumed script text s Read h = (h.0, front script text s h.1, answered consumed text s h.2)
  gives_up consumed script text s ReadTooLong h = (h.0, front script text s h.1, answered _ text s h.2)

  module _ (unread left start now : Option (List ℕ)) (s : S) where
    pub ended_text : (outcome : Outcome) → HasEnded piece knows unread left start now 16777215 s outcome → Exchanges unread left start now (λ consumed script text. (length consumed ≤ 16777215) × WritesText piece script text (Ok outcome))
    ended_text outcome h = (h.0, h.1, h.2, h.3, h.4, h.5, (h.6.0, written (h.0 ++ h.1) h.2 s (Ends outcome) h.6.1))

    pub given_up_text : (fault : RunFault) → HasGivenUp piece knows unread left start now 16777215 s fault → Exchanges unread left start now (λ consumed script text. StopsText piece consumed script text fault)
    given_up_text fault h = (h.0, h.1, h.2, h.3, h.4, h.5, gives_up h.0 (h.0 ++ h.1) h.2 s fault h.6)
