use Rattle.std.proofs.Common.{◌+◌, subst}
use Rattle.boundary_loc.specs.Boundary.{IsLeastMultiple}
use Rattle.boundary_loc.proofs.Next.{moved}
use Rattle.boundary_loc.proofs.next_start.Goals as goal

pub returns-in-Some-clause-next : goal.returns-in-Some-clause-next
returns-in-Some-clause-next c =
    rw c.in-Some.is
    (moved c.args.start c.in-Some.within c.args.first c.round_up.result c.round_up-in-Some.result
    (subst (λ u. IsLeastMultiple u (c.args.first + 1) c.round_up.result) c.power.ensures.is c.round_up.ensures.least)
    (subst (λ u. IsLeastMultiple u c.round_up.result c.round_up-in-Some.result) c.power-in-Some.ensures.is c.round_up-in-Some.ensures.least))
