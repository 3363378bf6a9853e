use Rattle.std.proofs.Common.{arith}
use Rattle.free_queue.specs.Runs.{page_of}
use Rattle.free_queue.proofs.Queues.{covered}
use Rattle.free_queue.proofs.take.Goals as goal

pub len-requires-clause-inside : goal.len-requires-clause-inside
len-requires-clause-inside c = let q = c.requires.queue in let o = covered (page_of c.args.region.now c.args.page) c.args.head c.args.from c.args.n q.0 q.1 q.2 q.3 in o.room

pub overflow_add-head : goal.overflow_add-head
overflow_add-head c = let q = c.requires.queue in let o = covered (page_of c.args.region.now c.args.page) c.args.head c.args.from c.args.n q.0 q.1 q.2 q.3 in record { fits = omega (arith, o.inside, c.len.ensures) }
