-- The events of calls for C. The numbers of the kinds are this project's choice.
use Rattle.std.specs.Prelude.{ℕ, ◌*◌, Bool, true, false, Option, Some, None, Result, Ok, Err, replicate}
use Rattle.mvs_model.specs.declared.answer.Answer.{Answer}
use Rattle.mvs_model.specs.declared.answer.Answer.TheVariants as answer
use Rattle.mvs_model.specs.declared.code.Code.{Code}
use Rattle.mvs_model.specs.declared.code.Code.TheVariants.{System, User}
use Rattle.mvs_model.specs.declared.name.Name.{Name}
use Rattle.mvs_model.specs.declared.request.Reply.{Reply}
use Rattle.mvs_model.specs.declared.request.Reply.TheVariants as reply
use Rattle.mvs_model.specs.Place.{PlaceValue}
use Rattle.mvs_model.specs.Texts.{fault_number}
use Rattle.mvs_job.specs.declared.walk.LineEvent.{LineEvent}
use Rattle.mvs_job.specs.declared.walk.LineEvent.TheVariants as line_event
use Rattle.mvs_job.specs.declared.walk.OutOfMemoryAt.{OutOfMemoryAt}
use Rattle.mvs_c.specs.declared.ask.RequestKind.{RequestKind}
use Rattle.mvs_c.specs.declared.ask.RequestKind.TheVariants.{SystemAbend}
use Rattle.mvs_c.specs.declared.event.Event.{Event}
use Rattle.mvs_c.specs.declared.field.RequestField.{RequestField}
use Rattle.mvs_c.specs.Fields.{offset}

-- the number of bytes of an event
abbrev pub event_bytes : ℕ
event_bytes = 32

-- an event of a kind, and no more
abbrev pub of_kind : ℕ → Event
of_kind kind = record { size = event_bytes; kind = kind; code = 0; address = 0; length = 0; ended = 0; task = replicate 8 32 }

-- an event of a task
abbrev pub of_task : ℕ → Name → Event
of_task kind t = record { size = event_bytes; kind = kind; code = 0; address = 0; length = 0; ended = 0; task = t }

-- an event of a task that has a place
abbrev pub of_place : ℕ → Name → PlaceValue → Event
of_place kind t p = record (of_task kind t) { address = p.addr; length = p.len }

-- how a step ended: 0 where none did, 1 where no task of it had abended, 2 where a task had
abbrev pub step_number : Option Bool → ℕ
step_number None = 0
step_number (Some false) = 1
step_number (Some true) = 2

-- a completion code of 24 bits: a system code in the upper twelve, or a user code in the lower
abbrev pub completion : Code → ℕ
completion (System n) = n * 4096
completion (User n) = n

-- the answer to a statement of a task
abbrev pub answer_event : Name → Answer → Event
answer_event t answer.NotRun = of_task 3 t
answer_event t answer.NoName = of_task 4 t
answer_event t (answer.At a) = record (of_task 5 t) { address = a }
answer_event t answer.Rc0 = of_task 6 t
answer_event t (answer.Granted n) = record (of_task 7 t) { length = n }
answer_event t answer.Rc4 = of_task 8 t
answer_event t answer.Cell = of_task 9 t
answer_event t answer.NoCell = of_task 10 t
answer_event t answer.Attached = of_task 11 t
answer_event t answer.Ended = of_task 12 t
answer_event t answer.Done = of_task 13 t
answer_event t (answer.Data p) = of_place 14 t p
answer_event t (answer.Abended code) = record (of_task 15 t) { code = completion code }
answer_event t answer.Subpools = of_task 16 t
answer_event t answer.Map = of_task 17 t

-- the reply to a request of a task that was given by values, which is for no list
abbrev pub reply_event : Name → Reply → Event
reply_event t reply.NotRun = of_task 3 t
reply_event t reply.Rc0 = of_task 6 t
reply_event t (reply.Listed ps) = of_task 6 t
reply_event t (reply.Obtained p) = of_place 7 t p
reply_event t reply.Rc4 = of_task 8 t
reply_event t (reply.Cell p) = of_place 9 t p
reply_event t reply.NoCell = of_task 10 t
reply_event t reply.Attached = of_task 11 t
reply_event t reply.Ended = of_task 12 t
reply_event t reply.Done = of_task 13 t
reply_event t (reply.Abended code fallen) = record (of_task 15 t) { code = completion code }

-- the system code with the number of a code
abbrev pub system_of : Code → Code
system_of (System n) = System n
system_of (User n) = System n

-- the reply to an abend with a system code, for which a user code of the same number was requested
abbrev pub system_event : Name → Reply → Event
system_event t (reply.Abended code fallen) = record (of_task 15 t) { code = completion (system_of code) }
system_event t r = reply_event t r

-- the reply to a request of a kind
abbrev pub requested_event : Option RequestKind → Name → Reply → Event
requested_event (Some SystemAbend) t r = system_event t r
requested_event kind t r = reply_event t r

-- the event of a line, or that memory is exhausted
abbrev pub event_of_line : Result LineEvent OutOfMemoryAt → Event
event_of_line (Ok line_event.Nothing) = of_kind 1
event_of_line (Ok (line_event.StepBegan end card)) = record (of_task 2 card.name) { ended = step_number end }
event_of_line (Ok (line_event.Answered t a)) = answer_event t a
event_of_line (Ok (line_event.Faulted fault)) = record (of_kind 18) { code = fault_number fault }
event_of_line (Err stopped) = record (of_kind 19) { ended = step_number stopped.ended }

-- the end of a job
abbrev pub end_event : Option Bool → Event
end_event end = record (of_kind 20) { ended = step_number end }

-- the event of a request that is refused because of a field
abbrev pub refused_event : RequestField → Event
refused_event f = record (of_kind 21) { code = offset f }
