-- What is kept of the step that runs, for its history, and what is done with a line.
use Rattle.std.specs.Prelude.{◌≡◌, ℕ, List, [], ◌++◌, length, Option, is_some, if◌then◌else◌}
use Rattle.mvs_model.specs.declared.line.Line.{Line}
use Rattle.mvs_model.specs.declared.line.SourceRequest.{SourceRequest}
use Rattle.mvs_model.specs.declared.line.Statement.TheVariants as says
use Rattle.mvs_model.specs.declared.name.Name.{Name}
use Rattle.mvs_model.specs.declared.reason.Reason.{Reason}
use Rattle.mvs_model.specs.declared.refusal.Refusal.{Refusal}
use Rattle.mvs_model.specs.declared.request.Request.{Request}
use Rattle.mvs_model.specs.Answers.{Event}
use Rattle.mvs_model.specs.Job.{JobValue}
use Rattle.mvs_model.specs.Reasons.{Explains}
use Rattle.mvs_job.specs.declared.walk.LineEvent.{LineEvent}
use Rattle.mvs_job.specs.declared.walk.LineEvent.TheVariants as line_event
use Rattle.mvs_job.specs.LineEvents.{KeepsRequest}
use Rattle.area_history.specs.declared.chronicle.Chronicle.{Chronicle}
use Rattle.area_history.specs.Anywhere.{IsAnywhere}
use Rattle.area_history.specs.Histories.{History, events_by, found_for, found_in, no_history}
use Rattle.area_history.specs.Ledgers.{begun, granted_by}

-- the history that it has
abbrev pub history_of : Chronicle → History
history_of c = record { grants = c.areas; events = c.events }

-- It has this history.
abbrev pub IsHistory : Chronicle → History → Type 0
IsHistory c h = history_of c ≡ h

-- It observes a refusal, and finds what the history says of the reason.
pub record HearsHistory (old : Chronicle) (job : JobValue) (t : Name) (request : Request) (refusal : Refusal) (new : Chronicle) : Type 0 where
  pub same : history_of new ≡ history_of old
  pub reason : Reason
  pub explains : Explains job.state t request refusal reason
  pub any : Option ℕ
  pub anywhere : IsAnywhere job.state t request reason any
  pub found : found_in new.found ≡ found_for (history_of old) job request reason any

-- The machine was asked this for a request that had this result, if its task was active and all its names were set.
abbrev pub ResolvesAt : JobValue → SourceRequest → Request → LineEvent → Type 0
ResolvesAt job a asked (line_event.Answered t answer) = KeepsRequest job (says.Request a) answer asked
ResolvesAt job a asked _ = Unit {0}

-- It keeps what the line with this number did, which says this and has these events.
pub record IsKept (old : Chronicle) (number : ℕ) (read : Line) (events : List Event) (after : Option JobValue) (new : Chronicle) : Type 0 where
  pub areas : new.areas ≡ (if is_some (begun events) then [] else old.areas ++ granted_by number read events after)
  pub changes : new.events ≡ (if is_some (begun events) then [] else old.events ++ events_by number read events after (length old.areas))
