use Rattle.std.proofs.Common.{◌+◌, ◌/◌, ◌&&◌, ℕ, Bool, arith}
use Rattle.area_history.specs.LastAreas.{is_last}
use Rattle.area_history.proofs.Marking.{count_next, count_none}
use Rattle.area_history.proofs.last_areas.LastAreas.count_each.Goals as goal

pub loop-k-init : goal.loop-k-init
loop-k-init g c = record {
  few = omega arith;
  counted = count_none (λ k. g.P.Holdings.plain c.args.step.now (c.get.result / 8 + k) && is_last c.args.self.now c.args.number (c.get.result / 8 + k));
}

pub loop-k-preserved : goal.loop-k-preserved
loop-k-preserved g c =
    let first = c.get.result / 8 in
    let test : ℕ → Bool = λ k. g.P.Holdings.plain c.args.step.now (first + k) && is_last c.args.self.now c.args.number (first + k) in
    let old = c.loop-k.invariant in
    record {
      few = omega (arith, old.few, c.count_one-left.ensures.most);
      counted = count_next c.loop-k.k c.loop-k.left c.count_one-left.result test old.counted c.count_one-left.ensures.count;
    }
