use Rattle.std.proofs.Common.{◌*◌, ◌/◌, ◌≡◌, ◌≤◌, ap, arith, ℕ, inl, inr, sym, ◌∙◌, subst}
use Rattle.std.specs.Prelude.{◌⊎◌}
use Rattle.mvs_model.specs.Reasons.{Holds}
use Rattle.area_history.proofs.Reported.{not_held, place_of_doubleword}
use Rattle.area_history.proofs.account.JobHoldings.is_plain.Goals as goal

pub returns-in-Nobody : goal.returns-in-Nobody
returns-in-Nobody c =
    let st = ap (λ x. x) (c.machine.ensures ∙ c.step-step.ensures.state) in
    let held = subst (λ d. Holds c.machine.result.now.state d c.holder.result) (place_of_doubleword c.new.result c.args.doubleword c.new.ensures) c.holder.ensures in
    not_held c.args.self.now.state c.args.doubleword c.holder.result c.step-step.ensures.steady c.in-Nobody.is (subst (λ s. Holds s c.args.doubleword c.holder.result) st held)
