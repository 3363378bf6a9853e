-- The explanations of a line: why its request was refused, if it was, and what was freed if it ended a task.
use Rattle.std.specs.Prelude.{◌≡◌, ◌⊎◌, ℕ, ◌==◌, List, [], ◌++◌, slice_index, Option, Some, None, false, not}
use Rattle.std.specs.List.{filter}
use Rattle.mvs_model.specs.declared.line.Line.{Line}
use Rattle.mvs_model.specs.declared.line.Line.TheVariants as line
use Rattle.mvs_model.specs.declared.line.Fault.{Fault}
use Rattle.mvs_model.specs.declared.line.Statement.TheVariants as says
use Rattle.mvs_model.specs.declared.outcome.Outcome.{Outcome}
use Rattle.mvs_model.specs.declared.reason.LineReason.{LineReason}
use Rattle.mvs_model.specs.declared.request.Request.{Request}
use Rattle.mvs_model.specs.declared.request.Request.TheVariants.{Return}
use Rattle.mvs_model.specs.Answers.{Event}
use Rattle.mvs_model.specs.Job.{JobValue}
use Rattle.mvs_model.specs.Lines.{ended_text, lines_of}
use Rattle.mvs_model.specs.Reading.{LineOf, FaultOf}
use Rattle.mvs_model.specs.Resolving.{resolved}
use Rattle.mvs_model.specs.Runs.{IsPrinting}
use Rattle.mvs_model.specs.Texts.{printing}
use Rattle.explanation.specs.ReasonTexts.{reason_line}
use Rattle.mvs_job.specs.Facts.{IsFreeing, ended_by, freed_lines}
use Rattle.mvs_job.specs.declared.explained.Explained.{Explained}
use Rattle.mvs_job.specs.Granting.{IsGranting, granted_text}
use Rattle.mvs_job.specs.NamedAddress.{IsNamed, NameOrigins, naming_text}
use Rattle.mvs_job.specs.declared.walk.LineEvent.{LineEvent}
use Rattle.mvs_job.specs.declared.walk.LineEvent.TheVariants as line_event
use Rattle.mvs_job.specs.LineEvents.{WalkValue, events_of_line}
use Rattle.mvs_job.specs.Why.{OfRead, spoken}

-- ---- a line

-- what is printed of the reason of a line
abbrev pub reason_text : JobValue → Line → Option LineReason → List ℕ
reason_text job l None = []
reason_text job line.Nothing (Some reason) = []
reason_text job (line.Statement t (says.Request a)) (Some reason) = reason_line t (spoken (resolved job.names a)) reason
reason_text job (line.Statement t s) (Some reason) = reason_line t Return reason

-- The text says why the next line, which has these events, is refused, by the step before it: nothing before the first step, of a
-- line with a fault, and of a line that has no reason.
abbrev pub IsExplanation : Option JobValue → List ℕ → List Event → List ℕ → Type 0
IsExplanation None bytes events text = text ≡ []
IsExplanation (Some job) bytes events text =
    ((l : Line) × LineOf false bytes l × ((r : Option LineReason) × OfRead job l events r × (text ≡ reason_text job l r)))
    ⊎ ((fault : Fault) × FaultOf false bytes fault × (text ≡ []))

-- what is printed of the reason of a line that says this and asks for this request
abbrev pub reason_part : Line → Request → Option LineReason → List ℕ
reason_part l request None = []
reason_part line.Nothing request (Some reason) = []
reason_part (line.Statement t s) request (Some reason) = reason_line t request reason

-- ---- all of them

-- The text comes after these events of the next line, which leads to this step: why it was refused, the name that has the address
-- of the reason, the subpools that were freed if it ended a task, and what it changed if it was granted.
abbrev pub IsExplanationText : Option JobValue → NameOrigins → List ℕ → List Event → Option JobValue → List ℕ → Type 0
IsExplanationText old set bytes events new text =
    (why : List ℕ) × (named : List ℕ) × (freed : List ℕ) × (done : List ℕ)
    × IsExplanation old bytes events why × IsNamed old set bytes events named × IsFreeing old events freed × IsGranting old bytes events new done
    × (text ≡ why ++ (named ++ (freed ++ done)))

-- ---- the printing in it

-- the text without its lines that begin with an asterisk
abbrev pub without_starred : List ℕ → List ℕ
without_starred text = ended_text (filter (λ l. not (slice_index l 0 == 42)) (lines_of text))

-- No line of a printing begins with an asterisk.
abbrev pub NoLineIsStarred : Type 0
NoLineIsStarred = (script text : List ℕ) (outcome : Outcome) → IsPrinting script text outcome → without_starred text ≡ text

-- ---- what calls do

-- the explanations of the last line, which says this, has these events and leads to this step
abbrev pub explanation_text : Explained → Line → List Event → Option JobValue → List ℕ
explanation_text x l events new =
    reason_part l x.why.request x.reason ++ (naming_text x.naming ++ (freed_lines x.why.subpools (ended_by events) ++ granted_text x.why.before l events new))

-- what is printed of a line that had these events and led to this state
abbrev pub text_of_event : Explained → ℕ → WalkValue → LineEvent → List ℕ
text_of_event x number w (line_event.Faulted fault) = printing (events_of_line number w (line_event.Faulted fault))
text_of_event x number w t = printing (events_of_line number w t) ++ explanation_text x w.read (events_of_line number w t) w.step
