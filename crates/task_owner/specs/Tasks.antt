-- What a contract sees of `Tasks`.
use Rattle.std.specs.Prelude.{ℕ, List, [], Option, None, IsSome, unwrap_or, slice_index_or, refl}
use Rattle.std.specs.Option.{option_map}
use Rattle.std.specs.Coded.{Coded, code_by, coded×, coded_list, coded_option}
use Rattle.std.specs.FinMap.{get}
use Rattle.mvs_model.specs.declared.name.Name.{Name}
use Rattle.mvs_model.specs.declared.want.Residence.{Residence}
use Rattle.mvs_model.specs.Name.{name_code}
use Rattle.mvs_model.specs.Owners.{Owners, owners_code}

-- The active tasks with their subpools, and the name of the task at each identifier.
pub record TasksValue : Type 0 where
  pub owners : Owners
  pub names : List (Option Name)

-- codes, for a model's value
abbrev pub tasks_code : Coded TasksValue
tasks_code =
    code_by (Owners × List (Option Name))
    (coded× owners_code (coded_list (coded_option name_code)))
    (λ d. (d.owners, d.names))
    (λ p. record { owners = p.0; names = p.1 })
    (λ _. refl)

-- the name of the task at the identifier
abbrev pub name_at : TasksValue → ℕ → Option Name
name_at d id = slice_index_or d.names id None

-- the identifier is that of an active task
abbrev pub IsTask : TasksValue → ℕ → Type 0
IsTask d id = IsSome (name_at d id)

-- the name of the active task at the identifier
abbrev pub name_of : TasksValue → ℕ → Name
name_of d id = unwrap_or (name_at d id) []

-- where the task of this name resides
abbrev pub residence_of : Owners → Name → Option Residence
residence_of o t = option_map (λ task. task.residence) (get o.tasks t)

-- the task that attached the task of this name, if one did
abbrev pub mother_of : Owners → Name → Option (Option Name)
mother_of o t = option_map (λ task. task.mother) (get o.tasks t)
