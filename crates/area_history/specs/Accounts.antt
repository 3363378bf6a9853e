-- What a reporter keeps of a step, and what it does with a line.
use Rattle.std.specs.Prelude.{◌≡◌, ◌⊎◌, ◌&&◌, ◌||◌, ℕ, List, [], ◌++◌, Option, Some, None, is_some, unwrap_or, option_map, Bool, true, false, not, if◌then◌else◌}
use Rattle.mvs_model.specs.declared.code.Code.{Code}
use Rattle.mvs_model.specs.declared.line.Line.{Line}
use Rattle.mvs_model.specs.declared.line.Line.TheVariants as line
use Rattle.mvs_model.specs.declared.line.SourceRequest.TheVariants as written
use Rattle.mvs_model.specs.declared.line.Statement.TheVariants as says
use Rattle.mvs_model.specs.declared.name.Name.{Name}
use Rattle.mvs_model.specs.declared.refusal.Consequence.TheVariants.{Abend}
use Rattle.mvs_model.specs.declared.refusal.Refusal.{Refusal}
use Rattle.mvs_model.specs.declared.request.Request.{Request}
use Rattle.mvs_model.specs.Answers.{Event}
use Rattle.mvs_model.specs.Consequences.{reply_to}
use Rattle.mvs_model.specs.Finite.{has}
use Rattle.mvs_model.specs.Job.{JobValue}
use Rattle.mvs_model.specs.Name.{same_name}
use Rattle.mvs_job.specs.declared.consumer.End.{End}
use Rattle.mvs_job.specs.declared.consumer.End.TheVariants as end
use Rattle.mvs_job.specs.Trace.{Entry}
use Rattle.area_history.specs.declared.account.Account.{Account}
use Rattle.area_history.specs.declared.account.Leftovers.{Leftovers}
use Rattle.area_history.specs.Leaking.{summary}
use Rattle.area_history.specs.Ledgers.{Ledger, Left, begun, ends_task, granted_by, left_of, pools_by}

-- what is left, with the areas in short
abbrev pub summary_of : Left → Leftovers
summary_of left = record { areas = summary left.areas; pools = left.pools }

-- whether a line can end the step or its job step task without a refusal
abbrev pub may_end : Option Name → Line → Bool
may_end root (line.Statement t (says.Region below above fill residence)) = true
may_end root (line.Statement t (says.Request written.Return)) = has (same_name t) root
may_end root (line.Statement t (says.Request (written.Obtain form number ask variable area))) = false
may_end root (line.Statement t (says.Request (written.ObtainList form number lengths start areas))) = false
may_end root (line.Statement t (says.Request (written.Release form number location len))) = false
may_end root (line.Statement t (says.Request (written.ReleaseArea form number area))) = false
may_end root (line.Statement t (says.Request (written.ReleaseList form number locations lengths))) = false
may_end root (line.Statement t (says.Request (written.ReleaseWhole form number))) = false
may_end root (line.Statement t (says.Request (written.Build pool number size primary secondary loc))) = false
may_end root (line.Statement t (says.Request (written.Get pool conditional cell))) = false
may_end root (line.Statement t (says.Request (written.Free pool cell))) = false
may_end root (line.Statement t (says.Request (written.Delete pool))) = false
may_end root (line.Statement t (says.Request (written.Attach name gifts residence))) = false
may_end root (line.Statement t (says.Request (written.Abend code))) = false
may_end root (line.Statement t (says.Request (written.Show location len))) = false
may_end root (line.Statement t (says.Request (written.Put location bytes))) = false
may_end root (line.Statement t (says.Request (written.Move to from len))) = false
may_end root (line.Statement t (says.Where name)) = false
may_end root (line.Statement t says.ReportSubpools) = false
may_end root (line.Statement t says.ReportMap) = false
may_end root line.Nothing = false

-- whether a step ends with the last entry of a trace that ends so
abbrev pub closes_step : End → Bool
closes_step (end.Closed ended) = is_some ended
closes_step (end.Exhausted ended) = false

-- Only what was found may have changed, and not after the end of the job step task.
pub record KeepsAccount (old new : Account) : Type 0 where
  pub root : new.root ≡ old.root
  pub history : new.history ≡ old.history
  pub pools : new.pools ≡ old.pools
  pub is_over : new.is_over ≡ old.is_over
  pub found : old.is_over ≡ true → new.found ≡ old.found

-- What is left in a step was found, if the job step task runs.
abbrev pub IsSettled : Account → Option JobValue → Type 0
IsSettled a step = a.is_over ≡ false → a.found ≡ summary_of (left_of step a.history a.pools)

-- It has looked at a line that says this, which comes next in this step.
abbrev pub Sees : Account → Option JobValue → Line → Type 0
Sees a step read = may_end a.root read ≡ true → IsSettled a step

-- It looks at a line that says this.
pub record IsLooked (old : Account) (step : Option JobValue) (read : Line) (new : Account) : Type 0 where
  pub sees : Sees new step read
  pub root : new.root ≡ old.root
  pub history : new.history ≡ old.history
  pub pools : new.pools ≡ old.pools
  pub is_over : new.is_over ≡ old.is_over
  pub found : old.is_over ≡ true → new.found ≡ old.found

-- It observes a refusal: if the job step task abends, it finds what is left before.
pub record IsObserved (old : Account) (job : JobValue) (t : Name) (request : Request) (refusal : Refusal) (new : Account) : Type 0 where
  pub kept : KeepsAccount old new
  pub found : (code : Code) → reply_to request refusal ≡ Abend code → has (same_name t) old.root ≡ true → IsSettled new (Some job)

-- It keeps what becomes of the line with this number, which says this and has these events.
pub record IsKept (old : Account) (number : ℕ) (read : Line) (events : List Event) (after : Option JobValue) (new : Account) : Type 0 where
  pub root : new.root ≡ unwrap_or (option_map (λ t. Some t) (begun events)) old.root
  pub history : new.history ≡ (if is_some (begun events) then [] else old.history ++ granted_by number read events after)
  pub pools : new.pools ≡ (if is_some (begun events) then [] else pools_by number read events after old.pools)
  pub is_over : new.is_over ≡ (not (is_some (begun events)) && (old.is_over || ends_task old.root events))
  pub found : new.found ≡ old.found

-- The account is that of a ledger.
pub record IsLedger (a : Account) (l : Ledger) : Type 0 where
  pub root : a.root ≡ l.root
  pub grants : a.history ≡ l.grants
  pub pools : a.pools ≡ l.pools
  pub left : ((a.is_over ≡ false) × (l.left ≡ None)) ⊎ ((a.is_over ≡ true) × (ls : Left) × (l.left ≡ Some ls) × (a.found ≡ summary_of ls))
