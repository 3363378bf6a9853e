use Rattle.std.proofs.Common.{◌+◌, ◌-◌, ◌^◌, ◌≤◌, subst, arith, IfSome}
use Rattle.boundary_loc.specs.Boundary.{IsGreatestMultiple}
use Rattle.boundary_loc.proofs.Last.{last_within, last_moved}
use Rattle.boundary_loc.proofs.last_start.Goals as goal

pub returns-then-passed-last : goal.returns-then-passed-last
returns-then-passed-last c =
    rw c.in-Some.is
    (last_within c.args.start c.in-Some.within c.args.len c.args.last c.round_down-passed.result c.requires.on_start c.requires.some
    (subst (λ u. IsGreatestMultiple u (c.args.last + c.args.len - 1) c.round_down-passed.result) c.power.ensures.is c.round_down-passed.ensures) (omega arith))

pub returns : goal.returns
returns c =
    let within = subst (λ w. IfSome w (λ k. c.args.len ≤ 2 ^ k)) c.in-Some.is c.requires.within in
    rw c.in-Some.is
    (last_moved c.args.start c.in-Some.within c.args.len c.args.last c.round_down-passed.result c.round_down.result c.requires.on_start c.requires.some within
    (subst (λ u. IsGreatestMultiple u (c.args.last + c.args.len - 1) c.round_down-passed.result) c.power.ensures.is c.round_down-passed.ensures) (omega arith)
    (subst (λ u. IsGreatestMultiple u (c.round_down-passed.result - c.args.len) c.round_down.result) c.power-2.ensures.is c.round_down.ensures))
