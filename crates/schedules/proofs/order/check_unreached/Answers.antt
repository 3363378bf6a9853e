use Rattle.std.proofs.Common.{◌≡◌, ◌+◌, ◌<◌, ◌≤◌, ◌∙◌, ap, arith, drop, get_or, length, subst, sym, true}
use Rattle.schedules.specs.Refusals.{is_left}
use Rattle.schedules.proofs.Refused.{left_at, other_length, other_number}
use Rattle.schedules.proofs.Statements.{tail_is}
use Rattle.schedules.proofs.order.check_unreached.Goals as goal

pub returns-in_default-clause-refused : goal.returns-in_default-clause-refused
returns-in_default-clause-refused c =
    let lines = c.args.lines.now in
    let left = c.args.left.now in
    let order = c.args.order.now in
    let from = c.args.from in
    let at = c.positions.at in
    let within : at < length left = omega (arith, c.positions-test.true) in
    let short : length (drop from order) ≤ at = let h = c.in_default.ensures.lookup.3 in let e = ap length (tail_is order from) in omega (arith, h, e) in
    record {
      at = from;
      after = omega arith;
      differs = other_length lines left (drop from order) (λ e. omega (arith, e, short, within));
      reason = subst (λ n. is_left lines left n ≡ true) (sym c.number_at-number.ensures) (left_at lines left at within);
    }

pub returns-then-next-number-clause-refused : goal.returns-then-next-number-clause-refused
returns-then-next-number-clause-refused c =
    let lines = c.args.lines.now in
    let left = c.args.left.now in
    let order = c.args.order.now in
    let from = c.args.from in
    let at = c.positions.at in
    let within : at < length left = omega (arith, c.positions-test.true) in
    let is : c.in-Some.next.now ≡ get_or (drop from order) at 0 = c.in-Some.ensures.lookup.3.1 0 ∙ ap (λ x. get_or x at 0) (tail_is order from) in
    record {
      at = from + at;
      after = omega arith;
      differs = other_number lines left (drop from order) at c.in-Some.next.now within is (λ e. c.if-next-number.true (e ∙ sym c.number_at-number.ensures));
      reason = c.why_unreached.ensures;
    }

pub returns-in-Some-get-clause-refused : goal.returns-in-Some-get-clause-refused
returns-in-Some-get-clause-refused c =
    let lines = c.args.lines.now in
    let left = c.args.left.now in
    let order = c.args.order.now in
    let from = c.args.from in
    let at = c.positions.at in
    let long : at < length (drop from order) = let h = c.in-Some-get.ensures.lookup.3.0 in let e = ap length (tail_is order from) in omega (arith, h, e) in
    let past : length left ≤ at = omega (arith, c.positions-test.false) in
    record {
      at = from + at;
      after = omega arith;
      differs = other_length lines left (drop from order) (λ e. omega (arith, e, long, past));
      reason = c.why_unreached-in-Some-get.ensures;
    }
