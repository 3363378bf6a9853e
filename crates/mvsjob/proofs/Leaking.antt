-- How a run with reports of leaks ends.
use Rattle.std.proofs.Common.{◌≡◌, List, Bool, true, false, not, refl, sym, ap, ◌∙◌}
use Rattle.std.specs.Prelude.{◌||◌, ◌&&◌}
use Rattle.std.specs.List.{list_all}
use Rattle.mvs_model.specs.declared.outcome.Outcome.{Outcome}
use Rattle.mvs_model.specs.declared.outcome.Outcome.TheVariants.{Clean, SomeAbend, ScriptFault}
use Rattle.mvs_job.specs.Strict.{is_of_served}
use Rattle.mvs_job.specs.Trace.{Entry, events_of}
use Rattle.mvsjob.specs.declared.ending.ExitReason.{ExitReason}
use Rattle.mvsjob.specs.declared.ending.ExitReason.TheVariants.{Ran}
use Rattle.mvsjob.specs.Endings.{leak_ending, strict_ending}

strict_all : (outcome : Outcome) → Ran outcome ≡ strict_ending outcome true
strict_all Clean = refl
strict_all SomeAbend = refl
strict_all ScriptFault = refl

-- a run that is not strict
pub ends_plainly : (ending : ExitReason) (leaked : Bool) (outcome : Outcome) → ending ≡ leak_ending leaked (Ran outcome) → ending ≡ leak_ending leaked (strict_ending outcome true)
ends_plainly ending leaked outcome is = is ∙ ap (leak_ending leaked) (strict_all outcome)

-- a strict one
pub ends_strictly : (ending : ExitReason) (leaked all : Bool) (entries : List Entry) (outcome : Outcome) → ending ≡ leak_ending leaked (strict_ending outcome all) → all ≡ list_all is_of_served (events_of entries)
    → ending ≡ leak_ending leaked (strict_ending outcome (not true || list_all is_of_served (events_of entries)))
ends_strictly ending leaked all entries outcome is served = is ∙ ap (λ b. leak_ending leaked (strict_ending outcome b)) served
