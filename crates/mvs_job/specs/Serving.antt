-- The effect of a call that executes a line and prints its events.
use Rattle.std.specs.Prelude.{◌⊎◌, ℕ, List, [], ◌∷◌, Option, Result, Ok, Err, Bool, true, false}
use Rattle.std.specs.Io.KnownBytes.{Appends, Keeps}
use Rattle.mvs_model.specs.Answers.{Event}
use Rattle.mvs_model.specs.Job.{JobValue}
use Rattle.mvs_model.specs.Memory.{StopsForMemory}
use Rattle.mvs_model.specs.Runs.{machine}
use Rattle.mvs_model.specs.Texts.{printing}
use Rattle.mvs_model.specs.Walk.{ServesLine, Faults, is_first}
use Rattle.line_text.specs.Writing.{AppendsFront}
use Rattle.mvs_job.specs.declared.printing.Stop.{Stop}
use Rattle.mvs_job.specs.declared.printing.Stop.TheVariants as stop
use Rattle.mvs_job.specs.declared.walk.LineEvent.{LineEvent}
use Rattle.mvs_job.specs.LineEvents.{WalkValue, ServesAs, events_of_line}

-- the possible result of a line: its answer, or its fault
abbrev pub MayHappen : WalkValue → List ℕ → List Event → Type 0
MayHappen w line events = ((new : Option JobValue) × ServesLine machine w.number w.step line events new) ⊎ Faults w.number (is_first w.step) line events

-- The effect of the call for one line, between two moments of a writer: the line is executed, and the job continues; it has a
-- fault, which is printed; or the call stops: at a write, after nothing or the beginning of the events was printed; or because
-- memory is exhausted, after the events before the answer were printed.
abbrev pub RunsLine : Option (List ℕ) → Option (List ℕ) → WalkValue → List ℕ → WalkValue → Result Bool Stop → Type 0
RunsLine before after w line new (Ok true) = (events : List Event) × Appends before after (printing events) × ServesLine machine w.number w.step line events new.step
RunsLine before after w line new (Ok false) = (events : List Event) × Appends before after (printing events) × Faults w.number (is_first w.step) line events
RunsLine before after w line new (Err stop.Write) = Keeps before after ⊎ ((events : List Event) × MayHappen w line events × AppendsFront before after (printing events))
RunsLine before after w line new (Err stop.Memory) = (events : List Event) × Appends before after (printing events) × StopsForMemory w.number w.step (line ∷ []) events

-- The effect of the call that returns the events of the line.
abbrev pub ReturnsEvent : Option (List ℕ) → Option (List ℕ) → WalkValue → List ℕ → WalkValue → Result LineEvent Stop → Type 0
ReturnsEvent before after w line new (Ok line_event) = ServesAs w line line_event new × Appends before after (printing (events_of_line w.number new line_event))
ReturnsEvent before after w line new (Err stop) = RunsLine before after w line new (Err stop)
