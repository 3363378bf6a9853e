-- Why a request is refused, as a line of text and as fields.
use Rattle.std.specs.Prelude.{◌≡◌, ℕ, List, Option}
use Rattle.mvs_model.specs.declared.name.Name.{Name}
use Rattle.mvs_model.specs.declared.reason.Reason.{Reason}
use Rattle.mvs_model.specs.declared.refusal.Refusal.{Refusal}
use Rattle.mvs_model.specs.declared.request.Request.{Request}
use Rattle.mvs_model.specs.Job.{JobValue}
use Rattle.mvs_model.specs.Reasons.{Explains}
use Rattle.mvs_job.specs.declared.walk.LineEvent.{LineEvent}
use Rattle.mvs_job.specs.LineEvents.{WalkValue}
use Rattle.mvs_job.specs.Observing.{Hearing, ObservesLine}
use Rattle.mvs_job.specs.Valued.{ObservesValues}
use Rattle.mvs_c.specs.Reasons.{WhyValue, no_why, why_value}

-- This is why a task's request in a job is refused.
abbrev pub IsWhy : JobValue → Name → Request → Refusal → WhyValue → Type 0
IsWhy job t request refusal why = (reason : Reason) × Explains job.state t request refusal reason × (why ≡ why_value t request reason)

-- such a reason takes the place of the one before
abbrev pub says_why : Hearing WhyValue
says_why before job t request refusal left after = IsWhy job t request refusal after

-- This is why the request of a line of a script is refused. There is no reason if the line makes no request, or one that is granted.
abbrev pub IsWhyOfLine : Option JobValue → List ℕ → LineEvent → WalkValue → WhyValue → Type 0
IsWhyOfLine step bytes line_event new why = ObservesLine says_why no_why step bytes line_event new why

-- This is why a task's request is refused that is given by values. There is no reason if that is granted.
abbrev pub IsWhyOfValues : Option JobValue → Name → Request → WalkValue → WhyValue → Type 0
IsWhyOfValues step t request new why = ObservesValues says_why no_why step t request new why
