-- The parts of a machine as one value, and what always holds of its storage.
use Rattle.std.specs.Prelude.{ℕ, List, Option, IsSome, refl}
use Rattle.std.specs.Coded.{Coded, code_by, coded×, coded_list, coded_option}
use Rattle.std.specs.FinMap.{FinMap}
use Rattle.mvs_model.specs.declared.name.Name.{Name}
use Rattle.mvs_model.specs.Name.{name_cmp, name_code}
use Rattle.mvs_model.specs.Storage.{Storage, IsStorage}
use Rattle.mvs_model.specs.Owners.{Owners}
use Rattle.mvs_model.specs.State.{State, state_code}
use Rattle.mvs_model.specs.View.{IsBounded, state_of}
use Rattle.cell_pool.specs.Roots.{Root, pools_of}
use Rattle.task_owner.specs.Tasks.{TasksValue, name_at, name_of}

-- the state that storage, the tasks with what they own, and what is kept of the pools are together
abbrev pub machine_state : FinMap name_cmp Root → Storage → Owners → State
machine_state roots st o = state_of st o (pools_of roots st)

-- The state of a machine, and the name of the active task at each identifier.
pub record MachineValue : Type 0 where
  pub state : State
  pub names : List (Option Name)

-- a code, for a model's value
abbrev pub machine_code : Coded MachineValue
machine_code = code_by (State × List (Option Name)) (coded× state_code (coded_list (coded_option name_code))) (λ m. (m.state, m.names)) (λ p. record { state = p.0; names = p.1 }) (λ _. refl)

-- its tasks
abbrev pub tasks_in : MachineValue → TasksValue
tasks_in m = record { owners = m.state.owners; names = m.names }

-- An active task has the identifier.
abbrev pub IsTask : MachineValue → ℕ → Type 0
IsTask m t = IsSome (name_at (tasks_in m) t)

-- the name of the active task at the identifier
abbrev pub task_name : MachineValue → ℕ → Name
task_name m t = name_of (tasks_in m) t

-- Storage of a step: its regions have at most the pages of a card.
pub record IsStepStorage (st : Storage) : Type 0 where
  pub storage : IsStorage st
  pub bounded : IsBounded st.regions
