-- How far a step has come.
use Rattle.std.specs.Prelude.{Bool, refl}
use Rattle.std.specs.Coded.{Coded, code_by, coded×, coded_bool}
use Rattle.mvs_model.specs.State.{State, state_code}

-- The state of the machine, and whether a task has abended.
pub record StepValue : Type 0 where
  pub state : State
  pub abended : Bool

-- a code, for a model's value
abbrev pub step_code : Coded StepValue
step_code = code_by (State × Bool) (coded× state_code coded_bool) (λ p. (p.state, p.abended)) (λ p. record { state = p.0; abended = p.1 }) (λ _. refl)
