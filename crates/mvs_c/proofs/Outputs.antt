-- What is printed of the last event.
use Rattle.std.proofs.Common.{◌≡◌, ◌≢◌, ℕ, List, [], ◌∷◌, ◌++◌, Bool, Option, Some, None, arith}
use Rattle.mvs_model.specs.Answers.{Event}
use Rattle.mvs_job.specs.LineEvents.{ended}
use Rattle.mvs_c.specs.Exports.{HandsOver}

-- the end of a step and another event are not nothing
pub some_event : (end : Option Bool) (e : Event) → ended end ++ e ∷ [] ≢ []
some_event None e = λ h. (let f = h in cc)
some_event (Some abended) e = λ h. (let f = h in cc)

-- no bytes fit into each buffer
pub none_fit : (before after : List ℕ) (wanted status : ℕ) → HandsOver [] before after wanted 0 status → status ≡ 0
none_fit before after wanted status h = (h.fitting (omega arith)).1
