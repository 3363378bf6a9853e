-- What a handle of C holds: a session, its last event, why its last request was refused, what is recorded of it, and the pages that it knows
-- as assigned, if it has no bytes.
use Rattle.std.specs.Prelude.{refl, ◌≡◌, ℕ, ◌+◌, ◌^◌, ◌<◌, Bool, List, [], true, Option, Result, Ok, Err, is_none}
use Rattle.std.specs.Coded.{Coded, code_by, coded×, coded_bool, coded_list, coded_option}
use Rattle.mvs_model.specs.declared.line.Fault.{Fault}
use Rattle.mvs_model.specs.Answers.{Event}
use Rattle.mvs_model.specs.Reading.{checks, first_of}
use Rattle.mvs_model.specs.Texts.{printing}
use Rattle.mvs_model.specs.Walk.{is_first}
use Rattle.mvs_job.specs.declared.walk.LineEvent.{LineEvent}
use Rattle.mvs_job.specs.declared.walk.OutOfMemoryAt.{OutOfMemoryAt}
use Rattle.mvs_job.specs.Sessions.{SessionValue, session_code, new_session}
use Rattle.mvs_job.specs.LineEvents.{WalkValue, IsAvailable, events_of_line, ended, closing}
use Rattle.mvs_c.specs.declared.last.Last.{Last}
use Rattle.mvs_c.specs.declared.last.Last.TheVariants as last
use Rattle.mvs_c.specs.contracts.last.Last.{the_row}
use Rattle.mvs_c.specs.declared.effect.EffectFields.{EffectFields}
use Rattle.mvs_c.specs.declared.recorder.Recorder.{Recorder}
use Rattle.mvs_c.specs.Reasons.{WhyValue, why_code, no_why}
use Rattle.mvs_c.specs.Recording.{effects_in, no_recorder, recorder_code, switched_on}

-- a session, its last event, why its last request was refused, and what is recorded of it; of a session without bytes, for each page,
-- whether it was assigned at the last call that returned which of them changed
pub record OpenValue : Type 0 where
  pub session : SessionValue
  pub last : Last
  pub why : WhyValue
  pub recorder : Recorder
  pub pages : Option (List Bool)

-- a code, for a model's value
abbrev pub open_code : Coded OpenValue
open_code = code_by (SessionValue × (Last × (WhyValue × (Recorder × Option (List Bool))))) (coded× session_code (coded× the_row.coded (coded× why_code (coded× recorder_code (coded_option (coded_list coded_bool)))))) (λ o. (o.session, (o.last, (o.why, (o.recorder, o.pages))))) (λ p. record { session = p.0; last = p.1.0; why = p.1.1.0; recorder = p.1.1.1.0; pages = p.1.1.1.1 }) (λ _. refl)

-- a session before its first line
abbrev pub new_open : Option (List Bool) → OpenValue
new_open pages = record { session = new_session; last = last.Nothing; why = no_why; recorder = no_recorder; pages = pages }

-- whether a session has the bytes of storage: if not, it knows which pages are assigned
abbrev pub keeps_bytes : OpenValue → Bool
keeps_bytes o = is_none o.pages

-- the last events
abbrev pub events_of : WalkValue → Last → List Event
events_of w last.Nothing = []
events_of w (last.Line number line_event) = events_of_line number w line_event
events_of w (last.OutOfMemoryAt end) = ended end
events_of w (last.Closed number end) = closing number end

-- their text
abbrev pub text_of : OpenValue → List ℕ
text_of o = printing (events_of o.session.walk o.last)

-- a session that continues, with its job in this state, no event of a line, why a request was refused, what is recorded of it, and the
-- pages that it knows
abbrev pub without_line : WalkValue → WhyValue → Recorder → Option (List Bool) → OpenValue
without_line w why recorder pages = record { session = record { walk = w; continues = true }; last = last.Nothing; why = why; recorder = recorder; pages = pages }

-- the same session, which records each request from now on
abbrev pub recording : OpenValue → OpenValue
recording o = record o { recorder = switched_on o.recorder }

-- the effects of the last event, if requests are recorded
abbrev pub effects_of : OpenValue → List EffectFields
effects_of o = effects_in o.recorder o.session.walk.step o.session.walk.reply

-- The session has the long data of its last event.
abbrev pub LastIsAvailable : WalkValue → Last → Type 0
LastIsAvailable w (last.Line number line_event) = IsAvailable w line_event
LastIsAvailable w _ = Unit {0}

-- the events of the line with this number
abbrev pub last_of : ℕ → Result LineEvent OutOfMemoryAt → Last
last_of number (Ok line_event) = last.Line number line_event
last_of number (Err stopped) = last.OutOfMemoryAt stopped.ended

-- the fault of a line, the next of a session, if it has one
abbrev pub fault_of : OpenValue → List ℕ → Option Fault
fault_of o line = first_of (checks (is_first o.session.walk.step) line)

-- The job has not ended, and there is a number for the line after the next.
abbrev pub TakesLine : SessionValue → Type 0
TakesLine s = (s.continues ≡ true) × (s.walk.number + 1 < 2 ^ 32)
