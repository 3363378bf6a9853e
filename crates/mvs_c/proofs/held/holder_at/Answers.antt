-- The doubleword of an address is its eighth.
use Rattle.std.proofs.Common.{◌≡◌, ℕ, ◌/◌, arith, subst}
use Rattle.mvs_model.specs.Reasons.{Holds}
use Rattle.mvs_c.proofs.held.holder_at.Goals as goal

pub returns : goal.returns
returns c =
    let at : c.new.result / 8 ≡ c.args.d = omega (arith, c.new.ensures) in
    subst (λ (d : ℕ). Holds c.args.machine.now.state d c.holder.result) at c.holder.ensures
