use Rattle.std.proofs.Common.{arith}
use Rattle.subpool_store.specs.PageWalk.{begins_run}
use Rattle.subpool_store.proofs.walk.PageWalk.new.Goals as goal
use Rattle.mvs_model.proofs.Below.{count_none}

pub returns-clause-walk : goal.returns-clause-walk
returns-clause-walk c = record {
  ordered = omega arith;
  within = omega arith;
  passes = λ i low high. absurd (omega (arith, low, high));
  stands = c.queue_of.ensures;
  counted =
      let none = count_none 0 (begins_run c.args.memory.now.held c.args.pages.now c.args.subpool) (λ i low. absurd (omega (arith, low))) in
      let one = c.entry-entry.ensures.counted in
      omega (arith, none, one);
}
