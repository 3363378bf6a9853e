use Rattle.std.proofs.Common.{◌+◌, sym, ◌∙◌, refl, arith}
use Rattle.free_queue.specs.Runs.{page_of, word}
use Rattle.free_queue.proofs.Queues.{beyond_first, covered, keep_beyond, queue_at, same_all, take_later}
use Rattle.free_queue.proofs.+take_later.Goals as goal

pub link-next-requires-clause-inside : goal.link-next-requires-clause-inside
link-next-requires-clause-inside t c = let q = c.requires.queue in (covered (page_of c.args.region.now c.args.page) c.args.head c.args.from c.args.n q.0 q.1 q.2 q.3).room

pub len-requires-clause-inside : goal.len-requires-clause-inside
len-requires-clause-inside t c =
    let ws = page_of c.args.region.now c.args.page in let h = c.args.head in let a = c.args.from in let n = c.args.n in let q = c.requires.queue in
    let o = covered ws h a n q.0 q.1 q.2 q.3 in
    (covered ws c.link-next.result a n _ o.rest (queue_at ws h c.link-next.result q.0 q.1 o c.link-next.ensures) (beyond_first ws h a n q.0 q.1 o q.3 c.requires.some c.requires.far)).room

pub overflow_add-next : goal.overflow_add-next
overflow_add-next t c =
    let ws = page_of c.args.region.now c.args.page in let h = c.args.head in let a = c.args.from in let n = c.args.n in let q = c.requires.queue in
    let o = covered ws h a n q.0 q.1 q.2 q.3 in
    let past = covered ws c.link-next.result a n _ o.rest (queue_at ws h c.link-next.result q.0 q.1 o c.link-next.ensures) (beyond_first ws h a n q.0 q.1 o q.3 c.requires.some c.requires.far) in
    record { fits = omega (arith, past.inside, c.len.ensures) }

pub take_later-requires : goal.take_later-requires
take_later-requires t c =
    let ws = page_of c.args.region.now c.args.page in let h = c.args.head in let a = c.args.from in let n = c.args.n in let q = c.requires.queue in
    let o = covered ws h a n q.0 q.1 q.2 q.3 in
    (omega (arith, c.decreases, o.next, o.room, c.link-next.ensures), (c.requires.few, (c.requires.there, (c.requires.some, (c.requires.whole, ((h + word ws (h + 4) + 1, o.rest, queue_at ws h c.link-next.result q.0 q.1 o c.link-next.ensures, beyond_first ws h a n q.0 q.1 o q.3 c.requires.some c.requires.far), omega (arith, c.len.ensures, c.if-next-len.true)))))))

pub take_first-rest-requires-clause-queue : goal.take_first-rest-requires-clause-queue
take_first-rest-requires-clause-queue t c =
    let ws = page_of c.args.region.now c.args.page in let h = c.args.head in let a = c.args.from in let n = c.args.n in let q = c.requires.queue in
    let o = covered ws h a n q.0 q.1 q.2 q.3 in
    (h + word ws (h + 4) + 1, o.rest, queue_at ws h c.link-next.result q.0 q.1 o c.link-next.ensures, beyond_first ws h a n q.0 q.1 o q.3 c.requires.some c.requires.far)

pub len-own-requires-clause-inside : goal.len-own-requires-clause-inside
len-own-requires-clause-inside t c = let q = c.requires.queue in (covered (page_of c.args.region.now c.args.page) c.args.head c.args.from c.args.n q.0 q.1 q.2 q.3).room

pub set-requires-clause-inside : goal.set-requires-clause-inside
set-requires-clause-inside t c = let q = c.requires.queue in (covered (page_of c.args.region.now c.args.page) c.args.head c.args.from c.args.n q.0 q.1 q.2 q.3).room

pub set-requires-clause-whole : goal.set-requires-clause-whole
set-requires-clause-whole t c = let q = c.requires.queue in (covered (page_of c.args.region.now c.args.page) c.args.head c.args.from c.args.n q.0 q.1 q.2 q.3).whole

pub returns-then-next-len-clause-same : goal.returns-then-next-len-clause-same
returns-then-next-len-clause-same t c =
    let ws = page_of c.args.region.now c.args.page in let ws1 = page_of c.take_later.new.region c.args.page in
    keep_beyond ws ws1 ws1 c.args.head c.link-next.result c.link-next.result c.args.from c.args.n c.link-next.ensures c.requires.some c.requires.far c.take_later.ensures.queue c.take_later.ensures.same
    (record { next = λ e. e ∙ sym c.link-next.ensures; len = refl; same = λ d _. same_all ws1 d })

pub returns-else-next-len-clause-same : goal.returns-else-next-len-clause-same
returns-else-next-len-clause-same t c =
    keep_beyond (page_of c.args.region.now c.args.page) (page_of c.take_first-rest.new.region c.args.page) (page_of c.set.new.region c.args.page) c.args.head c.link-next.result c.take_first-rest.result c.args.from c.args.n c.link-next.ensures c.requires.some c.requires.far
    c.take_first-rest.ensures.queue c.take_first-rest.ensures.same (record { next = λ _. c.set.ensures.next; len = c.set.ensures.len ∙ c.len-own.ensures; same = c.set.ensures.same })

pub returns-then-next-len-clause-queue : goal.returns-then-next-len-clause-queue
returns-then-next-len-clause-queue t c =
    let ws = page_of c.args.region.now c.args.page in let ws1 = page_of c.take_later.new.region c.args.page in
    take_later ws ws1 ws1 c.args.head c.link-next.result c.link-next.result c.args.from c.args.n c.link-next.ensures c.requires.some c.requires.far c.take_later.ensures.queue c.take_later.ensures.same
    (record { next = λ e. e ∙ sym c.link-next.ensures; len = refl; same = λ d _. same_all ws1 d })

pub returns-else-next-len-clause-queue : goal.returns-else-next-len-clause-queue
returns-else-next-len-clause-queue t c =
    take_later (page_of c.args.region.now c.args.page) (page_of c.take_first-rest.new.region c.args.page) (page_of c.set.new.region c.args.page) c.args.head c.link-next.result c.take_first-rest.result c.args.from c.args.n c.link-next.ensures c.requires.some c.requires.far
    c.take_first-rest.ensures.queue c.take_first-rest.ensures.same (record { next = λ _. c.set.ensures.next; len = c.set.ensures.len ∙ c.len-own.ensures; same = c.set.ensures.same })
