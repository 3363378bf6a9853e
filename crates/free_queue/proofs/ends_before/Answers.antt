use Rattle.std.proofs.Common.{arith}
use Rattle.free_queue.specs.Runs.{page_of}
use Rattle.free_queue.proofs.Queues.{opened}
use Rattle.free_queue.proofs.ends_before.Goals as goal

pub len-requires-clause-inside : goal.len-requires-clause-inside
len-requires-clause-inside c =
    let q = c.requires.queue in let lt = c.if-head-from.true in let le = c.requires.inside in
    (opened (page_of c.args.region.now c.args.page) c.args.head q.0 q.1 q.2 (λ e. omega (arith, e, lt, le))).room

pub overflow_add-result : goal.overflow_add-result
overflow_add-result c =
    let q = c.requires.queue in let lt = c.if-head-from.true in let le = c.requires.inside in
    let o = opened (page_of c.args.region.now c.args.page) c.args.head q.0 q.1 q.2 (λ e. omega (arith, e, lt, le)) in
    record { fits = omega (arith, o.inside, c.len.ensures) }
