-- A job that gets its lines one by one.
use Rattle.std.specs.Prelude.{refl, Bool, true}
use Rattle.std.specs.Coded.{Coded, code_by, coded×, coded_bool}
use Rattle.mvs_job.specs.LineEvents.{WalkValue, walk_code, new_walk}

-- the state of the job, and whether it continues
pub record SessionValue : Type 0 where
  pub walk : WalkValue
  pub continues : Bool

-- a code, for a model's value
abbrev pub session_code : Coded SessionValue
session_code = code_by (WalkValue × Bool) (coded× walk_code coded_bool) (λ s. (s.walk, s.continues)) (λ p. record { walk = p.0; continues = p.1 }) (λ _. refl)

-- a session before its first line
abbrev pub new_session : SessionValue
new_session = record { walk = new_walk; continues = true }
