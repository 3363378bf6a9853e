use Rattle.std.proofs.Common.{Some, sym, ap, ◌∙◌, subst, arith}
use Rattle.free_queue.specs.Runs.{Queue, place_of, page_of}
use Rattle.free_queue.proofs.Queues.{opened, step_next, next_is_none, next_is}
use Rattle.free_queue.proofs.next_free.Goals as goal

pub runs-smaller : goal.runs-smaller
runs-smaller c =
    let q = c.requires.queue in let now = c.runs.invariant q.0 q.1 in let lt = c.runs-test.true in let le = c.requires.inside in
    let o = opened (page_of c.args.region.now c.args.page) c.runs.at now.0 now.1 now.2 (λ e. omega (arith, e, lt, le)) in
    omega (arith, o.next, lt, le, c.link-at.ensures)

pub runs-preserved : goal.runs-preserved
runs-preserved c = λ rs q.
    let now = c.runs.invariant rs q in let ws = (page_of c.args.region.now c.args.page) in
    let on = step_next now.0 now.1 ws c.runs.at c.args.from c.runs-test.true c.requires.inside now.2 in
    (on.0, on.1, subst (λ k. Queue on.0 ws k on.1) (sym c.link-at.ensures) on.2, now.3 ∙ on.3)

pub returns-then-at : goal.returns-then-at
returns-then-at c = λ rs q.
    let now = c.runs.invariant rs q in
    sym (ap place_of (now.3 ∙ next_is_none now.0 now.1 (page_of c.args.region.now c.args.page) c.runs.at c.args.from now.2 c.if-at.true))

pub returns-else-at : goal.returns-else-at
returns-else-at c = λ rs q.
    let now = c.runs.invariant rs q in
    ap (λ k. Some (c.runs.at, k)) c.len.ensures ∙ sym (ap place_of now.3 ∙ next_is now.0 now.1 (page_of c.args.region.now c.args.page) c.runs.at c.args.from now.2 c.if-at.false c.runs-test.false)

pub link-at-requires-clause-inside : goal.link-at-requires-clause-inside
link-at-requires-clause-inside c =
    let q = c.requires.queue in let now = c.runs.invariant q.0 q.1 in let lt = c.runs-test.true in let le = c.requires.inside in
    (opened (page_of c.args.region.now c.args.page) c.runs.at now.0 now.1 now.2 (λ e. omega (arith, e, lt, le))).room

pub len-requires-clause-inside : goal.len-requires-clause-inside
len-requires-clause-inside c = let q = c.requires.queue in let now = c.runs.invariant q.0 q.1 in (opened (page_of c.args.region.now c.args.page) c.runs.at now.0 now.1 now.2 c.if-at.false).room
