use Rattle.std.proofs.Common.{rules, ◌≡◌, ◌+◌, ◌<◌, ap, arith, length, subst, take, get_or}
use Rattle.std.specs.Prelude.{count_by}
use Rattle.schedules.specs.Counting.{is_of_task}
use Rattle.schedules.proofs.Counted.{orders_next}
use Rattle.schedules.proofs.counting.orders_of.Goals as goal

pub lines-preserved : goal.lines-preserved
lines-preserved c =
    let lines = c.args.lines.now in
    let at = c.lines.at in
    let l = c.index-lines-at.result in
    let within : at < length lines = omega (arith, c.lines-test.true) in
    let is : get_or lines at l ≡ l = search rules in
    let place : c.count_of-place.result ≡ count_by (is_of_task l.task) (take at lines) = subst (λ x. c.count_of-place.result ≡ count_by (is_of_task x.task) (take at lines)) is c.count_of-place.ensures.count in
    record {
      so_far = orders_next lines at l within is c.lines.orders c.in_ok-orders.orders (c.count_of-place.result + 1) (ap (λ n. n + 1) place) c.in_ok-orders.ensures c.lines.invariant.so_far;
      within = omega (arith, within);
    }
