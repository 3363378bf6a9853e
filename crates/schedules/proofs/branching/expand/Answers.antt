use Rattle.std.proofs.Common.{◌≡◌, ◌+◌, ◌-◌, ◌*◌, ◌<◌, ap, arith, drop, length, refl, slice_index, subst, take}
use Rattle.std.proofs.lemmas.Result.{on_ok_weaker}
use Rattle.schedules.specs.Searching.{Expands, Pushes, weight, weights}
use Rattle.schedules.proofs.Branches.{each_at, expands_first, expands_start, weight_at}
use Rattle.schedules.proofs.branching.expand.Goals as goal

pub positions-init : goal.positions-init
positions-init c =
    let branch = c.args.branch in
    let long : c.len-at.result ≡ length branch.left.items = omega (arith, branch.left.ok.0) in
    record {
      within = omega (arith, long);
      above = let w = c.requires.within in omega (arith, long, w);
      each = expands_start c.args.lines.now branch c.len-at.result c.args.stack.now.items long;
      weight = let same = ap (λ n. n * weight (length branch.left.items - 1)) long in omega (arith, same);
    }

pub positions-preserved : goal.positions-preserved
positions-preserved c =
    let lines = c.args.lines.now in
    let branch = c.args.branch in
    let left = branch.left.items in
    let i = c.positions.at - 1 in
    let k = slice_index left i in
    let within : i < length left = omega (arith, c.positions.invariant.within, c.positions-test.true) in
    let at : c.positions.at ≡ i + 1 = omega (arith, c.positions-test.true) in
    let old = c.positions.stack.items in
    let now = c.push_next.new.stack.items in
    record {
      within = omega (arith, within);
      above = omega (arith, c.positions-test.true);
      each = each_at lines branch i k within refl c.positions.at at c.args.stack.now.items old now c.in_ok-push_next.ensures c.positions.invariant.each;
      weight = weight_at lines branch i k within refl c.positions.at at old now (weights c.args.stack.now.items + length left * weight (length left - 1)) c.in_ok-push_next.ensures c.positions.invariant.weight;
    }

pub returns-clause-each : goal.returns-clause-each
returns-clause-each c =
    let lines = c.args.lines.now in
    let branch = c.args.branch in
    let first = c.args.first in
    let below = c.args.stack.now.items in
    let at : c.positions.at ≡ first + 1 = omega (arith, c.positions.invariant.above, c.positions-test.false) in
    let each = subst (λ n. Expands lines branch (take n branch.left.items) (drop n branch.left.items) below c.positions.stack.items) at c.positions.invariant.each in
    on_ok_weaker c.push_first.result
    (λ (p : Pushes lines branch first (slice_index branch.left.items first) c.positions.stack.items c.push_first.new.stack.items). expands_first lines branch first c.requires below c.positions.stack.items c.push_first.new.stack.items p each) c.push_first.ensures

pub returns-clause-weight : goal.returns-clause-weight
returns-clause-weight c =
    let lines = c.args.lines.now in
    let branch = c.args.branch in
    let first = c.args.first in
    let left = branch.left.items in
    let at : c.positions.at ≡ first + 1 = omega (arith, c.positions.invariant.above, c.positions-test.false) in
    let most = weights c.args.stack.now.items + length left * weight (length left - 1) in
    on_ok_weaker c.push_first.result
    (λ (p : Pushes lines branch first (slice_index left first) c.positions.stack.items c.push_first.new.stack.items).
    let h = weight_at lines branch first (slice_index left first) c.requires.within refl c.positions.at at c.positions.stack.items c.push_first.new.stack.items most p c.positions.invariant.weight in
    omega (arith, h)) c.push_first.ensures
