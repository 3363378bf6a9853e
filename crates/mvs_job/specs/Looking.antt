-- What is kept of a line that is explained.
use Rattle.std.specs.Prelude.{◌≡◌, Option, Some, None}
use Rattle.std.specs.Option.{option_and_then}
use Rattle.mvs_model.specs.declared.line.Line.{Line}
use Rattle.mvs_model.specs.declared.name.Name.{Name}
use Rattle.mvs_model.specs.declared.refusal.Refusal.{Refusal}
use Rattle.mvs_model.specs.declared.request.Request.{Request}
use Rattle.mvs_model.specs.Job.{JobValue}
use Rattle.mvs_job.specs.declared.explained.Explained.{Explained}
use Rattle.mvs_job.specs.Consuming.{Known}
use Rattle.mvs_job.specs.Explained.{set_by_entries}
use Rattle.mvs_job.specs.Granting.{before_line}
use Rattle.mvs_job.specs.NamedAddress.{IsNamingOf, NameOrigins, reason_address}
use Rattle.mvs_job.specs.Why.{IsSurvey, KeepsWhy}

-- What is kept of a refusal that is seen: why, and the name that has the address of the reason.
pub record KeepsExplained (old : Explained) (job : JobValue) (t : Name) (request : Request) (refusal : Refusal) (new : Explained) : Type 0 where
  pub why : KeepsWhy old.why job t request refusal new.why
  pub naming : IsNamingOf job old.lines (option_and_then (reason_address new.why.request) new.why.reason) new.naming
  pub lines : new.lines ≡ old.lines

-- What is looked at before a line that was parsed as this, which comes after lines that set these names in the step.
pub record IsLooking (step : Option JobValue) (set : NameOrigins) (read : Line) (new : Explained) : Type 0 where
  pub before : new.why.before ≡ before_line step read
  pub subpools : IsSurvey step read new.why.subpools
  pub unheard : new.why.reason ≡ None
  pub unnamed : new.naming ≡ None
  pub lines : (job : JobValue) → step ≡ Some job → new.lines ≡ set

-- What is known of one that prints with explanations: it has the names that the entries have set, each with its line.
abbrev pub knows_set : Explained → Known Explained
knows_set first = record { has = λ now entries. now.lines ≡ set_by_entries entries; had = λ now entries. Unit {0} }
