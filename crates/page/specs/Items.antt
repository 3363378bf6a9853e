-- The item of a line, from what the library returns.
use Rattle.std.specs.Prelude.{ℕ, List}
use Rattle.mvs_model.specs.declared.line.Line.{Line}
use Rattle.mvs_job.specs.declared.walk.LineEvent.{LineEvent}
use Rattle.mvs_job.specs.declared.walk.LineEvent.TheVariants as line_event
use Rattle.mvs_job.specs.LineEvents.{WalkValue, events_of_line}
use Rattle.page.specs.Markup.{fault_of, item_of}

-- the item of a line with this number and these bytes, with this meaning and these events, by the state of the job after it
abbrev pub item_of_event : ℕ → List ℕ → Line → WalkValue → LineEvent → List ℕ → List ℕ
item_of_event number l read w (line_event.Faulted fault) explanation = fault_of number l (events_of_line number w (line_event.Faulted fault))
item_of_event number l read w t explanation = item_of number l read (events_of_line number w t) w.step explanation
