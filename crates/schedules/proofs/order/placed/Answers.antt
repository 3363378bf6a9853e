use Rattle.std.proofs.Common.{rules, ◌≡◌, ◌<◌, ◌∙◌, arith, get_or, length, subst}
use Rattle.schedules.proofs.Placing.{placed_next}
use Rattle.schedules.proofs.order.placed.Goals as goal

pub lines-preserved : goal.lines-preserved
lines-preserved c =
    let lines = c.args.lines.now in
    let at = c.lines.at in
    let l = c.index-lines-at.result in
    let within : at < length lines = omega (arith, c.lines-test.true) in
    let is : get_or lines at l ≡ l = search rules in
    placed_next lines c.args.order.now c.args.number at l within is (subst (λ x. x.number ≡ c.args.number → ⊥) is c.if-lines-at.false) ∙ c.lines.invariant
