-- The active tasks and the cell pools of the step that runs, one by one.
use Rattle.std.specs.Prelude.{◌≡◌, ℕ, List, Option, None, MatchOption, SomeIff, unwrap_or}
use Rattle.std.specs.Option.{option_map}
use Rattle.std.specs.FinMap.{get}
use Rattle.mvs_model.specs.declared.name.Name.{Name}
use Rattle.mvs_model.specs.NextName.{IsNextName}
use Rattle.mvs_model.specs.Owners.{Owners}
use Rattle.mvs_model.specs.State.{State}
use Rattle.mvs_c.specs.declared.member.TaskFields.{TaskFields}
use Rattle.mvs_c.specs.Asks.{IsNamed, name_value}
use Rattle.mvs_c.specs.Opens.{OpenValue}
use Rattle.mvs_c.specs.Reasons.{name_or_blank}

-- the number of bytes of a task for C
abbrev pub task_bytes : ℕ
task_bytes = 20

-- the task that attached the active task of a name, if one did
abbrev pub mother_in : Owners → Name → Option Name
mother_in o name = unwrap_or (option_map (λ task. task.mother) (get o.tasks name)) None

-- a task for C: its name, and that of the task that attached it
abbrev pub task_value : Owners → Name → TaskFields
task_value o name = record { size = task_bytes; name = name; mother = name_or_blank (mother_in o name) }

-- The first name in byte order after these eight bytes, if they are a name, for which the table has something; the first of all, if they
-- are none.
pub record IsNextAfter {X : Type 0} (at : Name → Option X) (after : List ℕ) (found : Option Name) : Type 0 where
  pub given : Option Name
  pub named : SomeIff given (IsNamed after) (name_value after)
  pub next : IsNextName at given found

-- What is found after these bytes: a task of the step that runs, or that there is none.
abbrev pub FindsTask : OpenValue → List ℕ → Option TaskFields → Type 0
FindsTask o after found = MatchOption o.session.walk.step (found ≡ None)
    (λ job. (name : Option Name) × IsNextAfter (get job.state.owners.tasks) after name × (found ≡ option_map (task_value job.state.owners) name))

-- The same of a pool: its name.
abbrev pub FindsPoolName : OpenValue → List ℕ → Option Name → Type 0
FindsPoolName o after found = MatchOption o.session.walk.step (found ≡ None) (λ job. IsNextAfter (get job.state.pools) after found)
