use Rattle.std.proofs.Common.{◌+◌, ap, arith}
use Rattle.free_queue.specs.Runs.{page_of}
use Rattle.free_queue.proofs.Queues.{opened, give_before, give_join, keep_join, joined, give_after, keep_after}
use Rattle.free_queue.proofs.+give_first.Goals as goal

pub returns-then-stop-head-clause-queue : goal.returns-then-stop-head-clause-queue
returns-then-stop-head-clause-queue t c = give_before (page_of c.args.region.now c.args.page) (page_of c.put_run.new.region c.args.page) c.args.head c.put_run.result c.args.from c.args.n c.if-stop-head.true c.put_run.ensures.queue

pub returns-then-stop-head-2-clause-same : goal.returns-then-stop-head-2-clause-same
returns-then-stop-head-2-clause-same t c =
    keep_join (page_of c.args.region.now c.args.page) (page_of c.put_run-then-stop-head-2.new.region c.args.page) c.args.head c.link-next.result (c.args.head + c.len.result) c.put_run-then-stop-head-2.result c.args.from c.args.n
    c.link-next.ensures (ap (λ k. c.args.head + k) c.len.ensures) c.if-stop-head-2.true c.requires.inside c.put_run-then-stop-head-2.ensures.queue c.put_run-then-stop-head-2.ensures.same

pub returns-then-stop-head-2-clause-queue : goal.returns-then-stop-head-2-clause-queue
returns-then-stop-head-2-clause-queue t c =
    give_join (page_of c.args.region.now c.args.page) (page_of c.put_run-then-stop-head-2.new.region c.args.page) c.args.head c.link-next.result (c.args.head + c.len.result) c.put_run-then-stop-head-2.result c.args.from c.args.n
    c.link-next.ensures (ap (λ k. c.args.head + k) c.len.ensures) c.if-stop-head-2.true c.requires.inside c.put_run-then-stop-head-2.ensures.queue c.put_run-then-stop-head-2.ensures.same

pub returns-clause-same : goal.returns-clause-same
returns-clause-same t c =
    keep_after (page_of c.args.region.now c.args.page) (page_of c.give_first.new.region c.args.page) c.args.head c.link-next.result c.give_first.result c.args.from c.args.n
    c.link-next.ensures c.requires.some c.requires.inside c.if-stop-head.false c.if-stop-head-2.false c.requires.near c.give_first.ensures.queue c.give_first.ensures.same

pub returns-clause-queue : goal.returns-clause-queue
returns-clause-queue t c =
    give_after (page_of c.args.region.now c.args.page) (page_of c.give_first.new.region c.args.page) c.args.head c.link-next.result c.give_first.result c.args.from c.args.n
    c.link-next.ensures c.requires.some c.requires.inside c.if-stop-head.false c.if-stop-head-2.false c.requires.near c.give_first.ensures.queue c.give_first.ensures.same

pub overflow_add-end : goal.overflow_add-end
overflow_add-end t c = let q = c.requires.queue in let o = opened (page_of c.args.region.now c.args.page) c.args.head q.0 q.1 q.3 (λ e. omega (arith, e, c.requires.inside, c.if-stop-head.false)) in record { fits = omega (arith, o.inside, c.len.ensures) }

pub link-next-requires-clause-inside : goal.link-next-requires-clause-inside
link-next-requires-clause-inside t c = let q = c.requires.queue in let o = opened (page_of c.args.region.now c.args.page) c.args.head q.0 q.1 q.3 (λ e. omega (arith, e, c.requires.inside, c.if-stop-head.false)) in o.room

pub len-requires-clause-inside : goal.len-requires-clause-inside
len-requires-clause-inside t c = let q = c.requires.queue in let o = opened (page_of c.args.region.now c.args.page) c.args.head q.0 q.1 q.3 (λ e. omega (arith, e, c.requires.inside, c.if-stop-head.false)) in o.room

pub put_run-requires-then-stop-head-2-clause-order : goal.put_run-requires-then-stop-head-2-clause-order
put_run-requires-then-stop-head-2-clause-order t c = omega (arith, c.if-stop-head-2.true)

pub put_run-requires-then-stop-head-2-clause-inside : goal.put_run-requires-then-stop-head-2-clause-inside
put_run-requires-then-stop-head-2-clause-inside t c = let q = c.requires.queue in let o = opened (page_of c.args.region.now c.args.page) c.args.head q.0 q.1 q.3 (λ e. omega (arith, e, c.requires.inside, c.if-stop-head.false)) in omega (arith, o.inside, c.len.ensures)

pub put_run-requires-then-stop-head-2-clause-whole : goal.put_run-requires-then-stop-head-2-clause-whole
put_run-requires-then-stop-head-2-clause-whole t c = let q = c.requires.queue in let o = opened (page_of c.args.region.now c.args.page) c.args.head q.0 q.1 q.3 (λ e. omega (arith, e, c.requires.inside, c.if-stop-head.false)) in (c.requires.whole.0, omega (arith, o.whole, o.whole_len, c.len.ensures))

pub give_first-requires : goal.give_first-requires
give_first-requires t c =
    let h = c.args.head in let q = c.requires.queue in
    let j = joined (page_of c.args.region.now c.args.page) (page_of c.args.region.now c.args.page) h c.link-next.result 0 c.args.from c.args.n c.link-next.ensures c.requires.some c.requires.inside c.if-stop-head.false c.if-stop-head-2.false c.requires.near q.0 q.1 q.3 q.4 in
    let o = j.0 in let past = j.2 in (
      omega (arith, c.decreases, o.next, c.link-next.ensures, o.room),
      (
        c.requires.few,
        (
          c.requires.there,
          (
            omega (arith, j.1, o.some, c.requires.some),
            (
              omega (arith, c.requires.inside, c.if-stop-head.false),
              ((o.whole, omega (arith, c.requires.whole.0, c.requires.whole.1, o.whole, c.if-stop-head.false)), ((h, past.0, omega arith, past.1, past.2), λ lt. absurd (omega (arith, lt, o.next, c.link-next.ensures)))),
            ),
          ),
        ),
      ),
    )
