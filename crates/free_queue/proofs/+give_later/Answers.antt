use Rattle.std.proofs.Common.{◌+◌, refl, sym, ◌∙◌, arith}
use Rattle.free_queue.specs.Runs.{page_of, word}
use Rattle.free_queue.proofs.Queues.{from_rest, give_later, keep_past, opened, queue_at, same_all}
use Rattle.free_queue.proofs.+give_later.Goals as goal

pub ends_before-requires-clause-queue : goal.ends_before-requires-clause-queue
ends_before-requires-clause-queue t c =
    let ws = page_of c.args.region.now c.args.page in let h = c.args.head in let q = c.requires.queue in
    let o = opened ws h q.0 q.1 q.3 (λ e. omega (arith, e, c.requires.inside, c.requires.far)) in
    (h + word ws (h + 4) + 1, o.rest, queue_at ws h c.link-next.result q.0 q.1 o c.link-next.ensures)

pub give_later-requires : goal.give_later-requires
give_later-requires t c =
    let ws = page_of c.args.region.now c.args.page in let h = c.args.head in let q = c.requires.queue in
    let o = opened ws h q.0 q.1 q.3 (λ e. omega (arith, e, c.requires.inside, c.requires.far)) in
    (omega (arith, c.decreases, o.room, o.next, c.link-next.ensures), (c.requires.few, (c.requires.there, (c.requires.some, (c.requires.inside, (c.requires.whole, ((h + word ws (h + 4) + 1, o.rest, omega (arith, c.requires.far), queue_at ws h c.link-next.result q.0 q.1 o c.link-next.ensures, λ d v g. q.4 d v (from_rest ws h q.0 q.1 o d g)), c.if-ends_before.ensures.run refl)))))))

pub give_first-rest-requires-clause-queue : goal.give_first-rest-requires-clause-queue
give_first-rest-requires-clause-queue t c =
    let ws = page_of c.args.region.now c.args.page in let h = c.args.head in let q = c.requires.queue in
    let o = opened ws h q.0 q.1 q.3 (λ e. omega (arith, e, c.requires.inside, c.requires.far)) in
    (h + word ws (h + 4) + 1, o.rest, omega (arith, c.requires.far), queue_at ws h c.link-next.result q.0 q.1 o c.link-next.ensures, λ d v g. q.4 d v (from_rest ws h q.0 q.1 o d g))

pub set-requires-clause-whole : goal.set-requires-clause-whole
set-requires-clause-whole t c = let q = c.requires.queue in (opened (page_of c.args.region.now c.args.page) c.args.head q.0 q.1 q.3 (λ e. omega (arith, e, c.requires.inside, c.requires.far))).whole

pub returns-then-ends_before-clause-same : goal.returns-then-ends_before-clause-same
returns-then-ends_before-clause-same t c =
    let ws = page_of c.args.region.now c.args.page in let ws1 = page_of c.give_later.new.region c.args.page in
    keep_past ws ws1 ws1 c.args.head c.link-next.result c.link-next.result c.args.from c.args.n c.link-next.ensures c.requires.inside c.requires.far c.give_later.ensures.queue c.give_later.ensures.same
    (record { next = λ e. e ∙ sym c.link-next.ensures; len = refl; same = λ d _. same_all ws1 d })

pub returns-else-ends_before-clause-same : goal.returns-else-ends_before-clause-same
returns-else-ends_before-clause-same t c =
    keep_past (page_of c.args.region.now c.args.page) (page_of c.give_first-rest.new.region c.args.page) (page_of c.set.new.region c.args.page) c.args.head c.link-next.result c.give_first-rest.result c.args.from c.args.n c.link-next.ensures c.requires.inside c.requires.far
    c.give_first-rest.ensures.queue c.give_first-rest.ensures.same (record { next = λ _. c.set.ensures.next; len = c.set.ensures.len ∙ c.len-own.ensures; same = c.set.ensures.same })

pub returns-then-ends_before-clause-queue : goal.returns-then-ends_before-clause-queue
returns-then-ends_before-clause-queue t c =
    let ws = page_of c.args.region.now c.args.page in let ws1 = page_of c.give_later.new.region c.args.page in
    give_later ws ws1 ws1 c.args.head c.link-next.result c.link-next.result c.args.from c.args.n c.link-next.ensures c.requires.inside c.requires.far c.give_later.ensures.queue c.give_later.ensures.same
    (record { next = λ e. e ∙ sym c.link-next.ensures; len = refl; same = λ d _. same_all ws1 d })

pub returns-else-ends_before-clause-queue : goal.returns-else-ends_before-clause-queue
returns-else-ends_before-clause-queue t c =
    give_later (page_of c.args.region.now c.args.page) (page_of c.give_first-rest.new.region c.args.page) (page_of c.set.new.region c.args.page) c.args.head c.link-next.result c.give_first-rest.result c.args.from c.args.n c.link-next.ensures c.requires.inside c.requires.far
    c.give_first-rest.ensures.queue c.give_first-rest.ensures.same (record { next = λ _. c.set.ensures.next; len = c.set.ensures.len ∙ c.len-own.ensures; same = c.set.ensures.same })
