-- What the calls of C do. The numbers of the statuses are this project's choice.
use Rattle.std.specs.Prelude.{◌≡◌, ◌≢◌, ◌⊎◌, ℕ, ◌+◌, ◌<◌, ◌≤◌, Bool, List, [], ◌∷◌, ◌++◌, drop, length, Option, Some, None, Result, Ok, Err, IfOk, IsSome, MatchBool, MatchOption, MatchResult, true, false}
use Rattle.mvs_model.specs.declared.name.Name.{Name}
use Rattle.mvs_model.specs.declared.request.Request.{Request}
use Rattle.mvs_model.specs.declared.outcome.Outcome.{Outcome}
use Rattle.mvs_model.specs.declared.outcome.Outcome.TheVariants.{Clean, SomeAbend, ScriptFault}
use Rattle.mvs_model.specs.Memory.{StopsForMemory}
use Rattle.mvs_model.specs.Runs.{machine}
use Rattle.mvs_model.specs.Walk.{Closes}
use Rattle.mvs_job.specs.declared.walk.LineEvent.{LineEvent}
use Rattle.mvs_job.specs.declared.walk.LineEvent.TheVariants as line_event
use Rattle.mvs_job.specs.declared.walk.OutOfMemoryAt.{OutOfMemoryAt}
use Rattle.mvs_job.specs.declared.walk.JobEnd.{JobEnd}
use Rattle.mvs_job.specs.LineEvents.{WalkValue, ServesAs, KeepsReplyOf, closing, ended, continues}
use Rattle.mvs_job.specs.Valued.{RequestsOf}
use Rattle.mvs_c.specs.declared.event.Event.{Event}
use Rattle.mvs_c.specs.declared.last.Last.TheVariants as last
use Rattle.mvs_c.specs.declared.ask.RawRequest.{RawRequest}
use Rattle.mvs_c.specs.declared.ask.RequestKind.{RequestKind}
use Rattle.mvs_c.specs.declared.field.RequestField.{RequestField}
use Rattle.mvs_c.specs.declared.list.ListArea.{ListArea}
use Rattle.mvs_c.specs.Asks.{TaskAsks, kind_numbered}
use Rattle.mvs_c.specs.Events.{requested_event, event_of_line, end_event, refused_event}
use Rattle.mvs_c.specs.Lists.{AsksList, area_values, listed}
use Rattle.mvs_c.specs.Effects.{asked_of}
use Rattle.mvs_c.specs.ByteUse.{LineLacksBytes, request_lacks_bytes}
use Rattle.mvs_c.specs.Opens.{OpenValue, TakesLine, fault_of, last_of, recording, without_line}
use Rattle.mvs_c.specs.Pages.{AreFlags}
use Rattle.mvs_c.specs.Reasons.{WhyValue, no_why}
use Rattle.mvs_c.specs.Recording.{RecordsLine, forgotten, recorded_values}
use Rattle.mvs_c.specs.Why.{IsWhyOfLine, IsWhyOfValues}

-- The numbers of the lowest and of the highest place.
abbrev pub IsPlaceNumber : ℕ → Type 0
IsPlaceNumber n = (n ≡ 1) ⊎ (n ≡ 2)

-- The numbers of the places of a new session: those, and with a bit those of a session without bytes.
abbrev pub IsNewPlace : ℕ → Type 0
IsNewPlace n = IsPlaceNumber n ⊎ ((n ≡ 257) ⊎ (n ≡ 258))

-- A new session has the bytes of storage; or it has none, and no page is assigned.
abbrev pub BeginsWith : ℕ → Option (List Bool) → Type 0
BeginsWith place pages = MatchOption pages (IsPlaceNumber place) (λ flags. (IsPlaceNumber place → ⊥) × AreFlags None flags)

-- how a job ended
abbrev pub outcome_status : Outcome → ℕ
outcome_status Clean = 0
outcome_status SomeAbend = 8
outcome_status ScriptFault = 12

-- the result of a line: it was executed, or has a fault, or memory is exhausted
abbrev pub line_status : Result LineEvent OutOfMemoryAt → ℕ
line_status (Ok (line_event.Faulted fault)) = 12
line_status (Ok line_event) = 0
line_status (Err stopped) = 16

-- A call finds no session, and leaves none; or the session that it finds becomes another.
abbrev pub WithSession : Option OpenValue → Option OpenValue → Type 0 → (OpenValue → OpenValue → Type 0) → Type 0
WithSession None after none some = (after ≡ None) × none
WithSession (Some old) after none some = (new : OpenValue) × (after ≡ Some new) × some old new

-- A session executes a line, with these events. The kept reply is that to the request of the line, if it makes one, and the kept
-- reason says why that was refused.
abbrev pub ExecutesLine : OpenValue → List ℕ → Result LineEvent OutOfMemoryAt → OpenValue → Type 0
ExecutesLine old line line_event new =
    MatchResult line_event (λ line_event. ServesAs old.session.walk line line_event new.session.walk)
    (λ stopped. StopsForMemory old.session.walk.number old.session.walk.step (line ∷ []) (ended stopped.ended))
    × (new.session.walk.number ≡ old.session.walk.number + 1) × (new.session.continues ≡ continues line_event) × (new.last ≡ last_of old.session.walk.number line_event)
    × IfOk line_event (λ line_event. KeepsReplyOf old.session.walk line line_event new.session.walk)
    × MatchResult line_event (λ line_event. IsWhyOfLine old.session.walk.step line line_event new.session.walk new.why) (λ _. new.why ≡ no_why)
    × RecordsLine old.recorder old.session.walk.step line line_event new.recorder × (new.pages ≡ old.pages)

-- A call leaves all as it was, and answers this status.
abbrev pub Leaves : OpenValue → OpenValue → Event → Event → ℕ → ℕ → Type 0
Leaves old new before after status answered = (new ≡ old) × (after ≡ before) × (answered ≡ status)

-- The result of a call with a line: the session executes it; or it accepts none or does not have the bytes that the line reads or
-- writes, and then nothing changes.
pub record AnswersLine (old : OpenValue) (line : List ℕ) (new : OpenValue) (before after : Event) (status : ℕ) : Type 0 where
  pub executed : TakesLine old.session → (LineLacksBytes old line → ⊥)
      → (line_event : Result LineEvent OutOfMemoryAt) × ExecutesLine old line line_event new × (after ≡ event_of_line line_event) × (status ≡ line_status line_event)
  pub without : TakesLine old.session → LineLacksBytes old line → Leaves old new before after 68 status
  pub over : (TakesLine old.session → ⊥) → Leaves old new before after 24 status

-- The result of a call that tries a line: one with a fault changes nothing but the event, and any other is executed.
pub record TriesLine (old : OpenValue) (line : List ℕ) (new : OpenValue) (before after : Event) (status : ℕ) : Type 0 where
  pub taken : TakesLine old.session → MatchOption (fault_of old line) (AnswersLine old line new before after status)
      (λ fault. (new ≡ old) × (after ≡ event_of_line (Ok (line_event.Faulted fault))) × (status ≡ 12))
  pub over : (TakesLine old.session → ⊥) → (new ≡ old) × (after ≡ before) × (status ≡ 24)

-- A session executes a request of a kind that is given by values. If a field does not fit, the session does not have the bytes, or no
-- step runs, nothing changes but the event that names the field.
abbrev pub AnswersValues : OpenValue → Option RequestKind → Result (Name × Request) RequestField → OpenValue → Event → Event → ℕ → Type 0
AnswersValues old kind (Err f) new before after status = (new ≡ old) × (after ≡ refused_event f) × (status ≡ 52)
AnswersValues old kind (Ok asked) new before after status = MatchBool (request_lacks_bytes old asked.1)
    (Leaves old new before after 68 status)
    (MatchOption old.session.walk.step
    (Leaves old new before after 56 status)
    (λ _. (later : WalkValue) × (why : WhyValue) × RequestsOf old.session.walk asked.0 asked.1 true later × IsWhyOfValues old.session.walk.step asked.0 asked.1 later why × (new ≡ without_line later why (recorded_values old.recorder old.session.walk.step asked.0 (asked_of asked.1)) old.pages) × (after ≡ requested_event kind asked.0 later.reply) × (status ≡ 0)))

-- What a call answers that gives a session a request by values, of those that a struct may ask for: a job that has ended takes none.
abbrev pub AnswersRequest : OpenValue → RawRequest → (Result Request RequestField → Type 0) → OpenValue → Event → Event → ℕ → Type 0
AnswersRequest old a asks new before after status = MatchBool old.session.continues
    ((asked : Result (Name × Request) RequestField) × TaskAsks a asks asked × AnswersValues old (kind_numbered a.kind) asked new before after status)
    (Leaves old new before after 24 status)

-- The result of a call with a list request: the same as for one area, and the granted places are returned.
abbrev pub AnswersList : OpenValue → RawRequest → List ListArea → OpenValue → List ListArea → Event → Event → ℕ → Type 0
AnswersList old a areas new values before after status =
    AnswersRequest old a (AsksList a areas) new before after status
    × (status ≡ 0 → values ≡ area_values (listed new.session.walk.reply) areas) × (status ≢ 0 → values ≡ areas)

-- A session ends its job so.
abbrev pub EndsJob : OpenValue → JobEnd → OpenValue → Type 0
EndsJob old end new =
    Closes machine old.session.walk.number old.session.walk.step (closing old.session.walk.number end.ended) end.outcome
    × (new ≡ record { session = record { walk = old.session.walk; continues = false }; last = last.Closed old.session.walk.number end.ended; why = no_why; recorder = forgotten old.recorder; pages = old.pages })

-- The result of a call that ends a job.
abbrev pub AnswersEnd : OpenValue → OpenValue → Event → Event → ℕ → Type 0
AnswersEnd old new before after status =
    (old.session.continues ≡ true → (end : JobEnd) × EndsJob old end new × (after ≡ end_event end.ended) × (status ≡ outcome_status end.outcome))
    × (old.session.continues ≡ false → (new ≡ old) × (after ≡ before) × (status ≡ 24))

-- The result of a call after which a session records each request: it does, or memory is exhausted, and then nothing changes. If it
-- records already, nothing changes.
pub record StartsRecording (old new : OpenValue) (status : ℕ) : Type 0 where
  pub begun : status ≡ 0 → new ≡ recording old
  pub memory : status ≢ 0 → (status ≡ 16) × (new ≡ old)
  pub already : IsSome old.recorder.owned → status ≡ 0

-- Some bytes are returned in a buffer, at its front, with this status; or it is too small for them, and does not change. Their
-- number is returned.
pub record HandsOver (bytes before after : List ℕ) (wanted fits status : ℕ) : Type 0 where
  pub needed : wanted ≡ length bytes
  pub fitting : length bytes ≤ length before → (after ≡ bytes ++ drop (length bytes) before) × (status ≡ fits)
  pub too_small : length before < length bytes → (after ≡ before) × (status ≡ 32)
