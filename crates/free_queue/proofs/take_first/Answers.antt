use Rattle.std.proofs.Common.{◌+◌, ap, arith}
use Rattle.free_queue.specs.Runs.{page_of}
use Rattle.free_queue.proofs.Queues.{covered, in_first, take_near, keep_near}
use Rattle.free_queue.proofs.take_first.Goals as goal

pub overflow_add-stop : goal.overflow_add-stop
overflow_add-stop c = let q = c.requires.queue in let o = covered (page_of c.args.region.now c.args.page) c.args.head c.args.from c.args.n q.0 q.1 q.2 q.3 in record { fits = omega (arith, o.inside, c.len.ensures) }

pub overflow_add-from : goal.overflow_add-from
overflow_add-from c =
    let q = c.requires.queue in let o = covered (page_of c.args.region.now c.args.page) c.args.head c.args.from c.args.n q.0 q.1 q.2 q.3 in
    let v = in_first (page_of c.args.region.now c.args.page) c.args.head c.args.from c.args.n q.0 q.1 o q.3 c.requires.near in record { fits = omega (arith, v.1, o.inside) }

pub link-next-requires-clause-inside : goal.link-next-requires-clause-inside
link-next-requires-clause-inside c = let q = c.requires.queue in let o = covered (page_of c.args.region.now c.args.page) c.args.head c.args.from c.args.n q.0 q.1 q.2 q.3 in o.room

pub len-requires-clause-inside : goal.len-requires-clause-inside
len-requires-clause-inside c = let q = c.requires.queue in let o = covered (page_of c.args.region.now c.args.page) c.args.head c.args.from c.args.n q.0 q.1 q.2 q.3 in o.room

pub put_run-rest-requires-clause-order : goal.put_run-rest-requires-clause-order
put_run-rest-requires-clause-order c =
    let q = c.requires.queue in let o = covered (page_of c.args.region.now c.args.page) c.args.head c.args.from c.args.n q.0 q.1 q.2 q.3 in
    let v = in_first (page_of c.args.region.now c.args.page) c.args.head c.args.from c.args.n q.0 q.1 o q.3 c.requires.near in omega (arith, v.1, c.len.ensures)

pub put_run-rest-requires-clause-inside : goal.put_run-rest-requires-clause-inside
put_run-rest-requires-clause-inside c = let q = c.requires.queue in let o = covered (page_of c.args.region.now c.args.page) c.args.head c.args.from c.args.n q.0 q.1 q.2 q.3 in omega (arith, o.inside, c.len.ensures)

pub put_run-rest-requires-clause-whole : goal.put_run-rest-requires-clause-whole
put_run-rest-requires-clause-whole c = let q = c.requires.queue in let o = covered (page_of c.args.region.now c.args.page) c.args.head c.args.from c.args.n q.0 q.1 q.2 q.3 in (omega (arith, c.requires.whole.0, c.requires.whole.1), omega (arith, o.whole, o.whole_len, c.len.ensures))

pub put_run-requires-clause-order : goal.put_run-requires-clause-order
put_run-requires-clause-order c =
    let q = c.requires.queue in let o = covered (page_of c.args.region.now c.args.page) c.args.head c.args.from c.args.n q.0 q.1 q.2 q.3 in
    let v = in_first (page_of c.args.region.now c.args.page) c.args.head c.args.from c.args.n q.0 q.1 o q.3 c.requires.near in v.0

pub put_run-requires-clause-inside : goal.put_run-requires-clause-inside
put_run-requires-clause-inside c = let q = c.requires.queue in let o = covered (page_of c.args.region.now c.args.page) c.args.head c.args.from c.args.n q.0 q.1 q.2 q.3 in omega (arith, c.requires.near, o.inside)

pub put_run-requires-clause-whole : goal.put_run-requires-clause-whole
put_run-requires-clause-whole c = let q = c.requires.queue in let o = covered (page_of c.args.region.now c.args.page) c.args.head c.args.from c.args.n q.0 q.1 q.2 q.3 in (o.whole, c.requires.whole.0)

pub returns-clause-same : goal.returns-clause-same
returns-clause-same c =
    keep_near (page_of c.args.region.now c.args.page) (page_of c.put_run-rest.new.region c.args.page) (page_of c.put_run.new.region c.args.page) c.args.head c.link-next.result (c.args.head + c.len.result) c.put_run-rest.result c.put_run.result c.args.from c.args.n
    c.link-next.ensures (ap (λ k. c.args.head + k) c.len.ensures) c.requires.some c.requires.near c.put_run-rest.ensures.queue c.put_run-rest.ensures.same c.put_run.ensures.queue c.put_run.ensures.same

pub returns-clause-queue : goal.returns-clause-queue
returns-clause-queue c =
    take_near (page_of c.args.region.now c.args.page) (page_of c.put_run-rest.new.region c.args.page) (page_of c.put_run.new.region c.args.page) c.args.head c.link-next.result (c.args.head + c.len.result) c.put_run-rest.result c.put_run.result c.args.from c.args.n
    c.link-next.ensures (ap (λ k. c.args.head + k) c.len.ensures) c.requires.some c.requires.near c.put_run-rest.ensures.queue c.put_run-rest.ensures.same c.put_run.ensures.queue c.put_run.ensures.same
