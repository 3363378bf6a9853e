use Rattle.std.proofs.Common.{arith}
use Rattle.task_owner.proofs.Collecting.{collected_all}
use Rattle.task_owner.proofs.freed.collect_owned.Goals as goal

pub returns-clause-members : goal.returns-clause-members
returns-clause-members c =
    collected_all c.args.numbers.now c.args.key c.args.owned.now c.args.freed.now c.loop-n.n c.loop-n.freed c.loop-n.invariant.collected
    (λ s o h e. let l = c.requires.listed s o h e in (omega (arith, l.0), l.1))
