use Rattle.std.proofs.Common.{◌+◌, ◌-◌, ◌*◌, ◌/◌, ◌∷◌, sym, subst}
use Rattle.free_queue.specs.Runs.{Queue, page_of}
use Rattle.subpool_store.specs.Edits.{IsFreeRun}
use Rattle.subpool_store.specs.Memory.{IsCursor, MemoryState}
use Rattle.subpool_store.proofs.Cursors.{first_run, walk_ends, walk_on, walk_queue, walk_run, walk_splits}
use Rattle.subpool_store.proofs.memory.Memory.next_free.Goals as goal

pub next_free-requires-clause-queue : goal.next_free-requires-clause-queue
next_free-requires-clause-queue c =
    let walk = c.requires.queue in
    (walk.0, subst (λ (g : MemoryState). Queue 0 (page_of g.bytes c.args.page) c.args.queue walk.0) (sym c.self.view_is) (walk_queue c.args.self.now c.args.page c.args.from c.args.queue c.requires.from walk))

pub returns-in_err-at : goal.returns-in_err-at
returns-in_err-at c =
    let walk = c.requires.queue in
    rw c.from_residual.ensures (walk_ends c.args.self.now c.args.page c.args.from c.args.queue c.requires.from walk
    (c.in_err-at.ensures walk.0 (subst (λ (g : MemoryState). Queue 0 (page_of g.bytes c.args.page) c.args.queue walk.0) (sym c.self.view_is) (walk_queue c.args.self.now c.args.page c.args.from c.args.queue c.requires.from walk))))

pub next_head-requires-clause-queue : goal.next_head-requires-clause-queue
next_head-requires-clause-queue c =
    let walk = c.requires.queue in
    let found = first_run walk.0 c.in_ok-at.at c.in_ok-at.len (c.in_ok-at.ensures walk.0 (subst (λ (g : MemoryState). Queue 0 (page_of g.bytes c.args.page) c.args.queue walk.0) (sym c.self.view_is) (walk_queue c.args.self.now c.args.page c.args.from c.args.queue c.requires.from walk))) in
    (8 * c.args.from - 4096 * c.args.page, found.0, found.1, subst (λ (g : MemoryState). Queue (8 * c.args.from - 4096 * c.args.page) (page_of g.bytes c.args.page) c.args.queue (found.0 ∷ found.1)) (sym c.self.view_is) (walk_splits c.args.self.now c.args.page c.args.from c.args.queue c.requires.from walk found.0 found.1 found.2))

pub returns : goal.returns
returns c =
    let walk = c.requires.queue in let m = c.args.self.now in let page = c.args.page in
    let found = first_run walk.0 c.in_ok-at.at c.in_ok-at.len (c.in_ok-at.ensures walk.0 (subst (λ (g : MemoryState). Queue 0 (page_of g.bytes page) c.args.queue walk.0) (sym c.self.view_is) (walk_queue m page c.args.from c.args.queue c.requires.from walk))) in
    let r = found.0 in
    let queue = c.next_head.ensures (8 * c.args.from - 4096 * page) r found.1 (subst (λ (g : MemoryState). Queue (8 * c.args.from - 4096 * page) (page_of g.bytes page) c.args.queue (r ∷ found.1)) (sym c.self.view_is) (walk_splits m page c.args.from c.args.queue c.requires.from walk r found.1 found.2)) in
    let on = walk_on m page c.args.from c.args.queue c.requires.from walk r found.1 found.2 c.next_head.result (subst (λ (g : MemoryState). Queue (r.from + r.len + 1) (page_of g.bytes page) c.next_head.result found.1) c.self.view_is queue) in
    subst (λ a. IsFreeRun m.held c.args.from (512 * page + 512) (512 * page + a / 8) (512 * page + a / 8 + c.in_ok-at.len / 8) × IsCursor m page (512 * page + a / 8 + c.in_ok-at.len / 8) c.next_head.result) found.3
    (subst (λ l. IsFreeRun m.held c.args.from (512 * page + 512) (512 * page + r.from / 8) (512 * page + r.from / 8 + l / 8) × IsCursor m page (512 * page + r.from / 8 + l / 8) c.next_head.result) found.4
    (walk_run m page c.args.from c.args.queue c.requires.from walk r found.1 found.2, on))
