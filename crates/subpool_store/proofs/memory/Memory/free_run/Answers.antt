use Rattle.std.proofs.Common.{◌≡◌, ◌+◌, ◌-◌, ◌*◌, ◌/◌, ◌∷◌, sym, subst, arith}
use Rattle.free_queue.specs.Runs.{Queue, page_of}
use Rattle.subpool_store.specs.Edits.{IsFreeRun}
use Rattle.subpool_store.specs.Memory.{IsCursor, MemoryState}
use Rattle.subpool_store.proofs.Cursors.{first_run, walk_ends, walk_on, walk_queue, walk_run, walk_splits}
use Rattle.subpool_store.proofs.memory.Memory.free_run.Goals as goal

pub next_free-requires-clause-queue : goal.next_free-requires-clause-queue
next_free-requires-clause-queue c =
    let walk = c.requires.queue in
    (walk.0, subst (λ (g : MemoryState). Queue 0 (page_of g.bytes c.args.page) c.args.queue walk.0) (sym c.self.view_is) (walk_queue c.args.self.now c.args.page c.args.from c.args.queue c.requires.from walk))

pub overflow_add-result : goal.overflow_add-result
overflow_add-result c =
    let walk = c.requires.queue in let m = c.args.self.now in let page = c.args.page in let from = c.args.from in
    let found = first_run walk.0 c.in_ok-at.at c.in_ok-at.len (c.in_ok-at.ensures walk.0 (subst (λ (g : MemoryState). Queue 0 (page_of g.bytes c.args.page) c.args.queue walk.0) (sym c.self.view_is) (walk_queue c.args.self.now c.args.page c.args.from c.args.queue c.requires.from walk))) in
    let r = found.0 in let splits = walk_splits m page from c.args.queue c.requires.from walk r found.1 found.2 in
    let up = splits.0 in
    record { fits = omega (arith, up.2, found.3, found.4) }

pub next_head-requires-clause-queue : goal.next_head-requires-clause-queue
next_head-requires-clause-queue c =
    let walk = c.requires.queue in let m = c.args.self.now in let page = c.args.page in let from = c.args.from in
    let found = first_run walk.0 c.in_ok-at.at c.in_ok-at.len (c.in_ok-at.ensures walk.0 (subst (λ (g : MemoryState). Queue 0 (page_of g.bytes c.args.page) c.args.queue walk.0) (sym c.self.view_is) (walk_queue c.args.self.now c.args.page c.args.from c.args.queue c.requires.from walk))) in
    let r = found.0 in let splits = walk_splits m page from c.args.queue c.requires.from walk r found.1 found.2 in
    (8 * from - 4096 * page, r, found.1, subst (λ (g : MemoryState). Queue (8 * from - 4096 * page) (page_of g.bytes page) c.args.queue (r ∷ found.1)) (sym c.self.view_is) splits)

pub returns-in_err-at : goal.returns-in_err-at
returns-in_err-at c =
    let walk = c.requires.queue in
    rw c.from_residual.ensures (walk_ends c.args.self.now c.args.page c.args.from c.args.queue c.requires.from walk
    (c.in_err-at.ensures walk.0 (subst (λ (g : MemoryState). Queue 0 (page_of g.bytes c.args.page) c.args.queue walk.0) (sym c.self.view_is) (walk_queue c.args.self.now c.args.page c.args.from c.args.queue c.requires.from walk))))

pub returns : goal.returns
returns c =
    let walk = c.requires.queue in let m = c.args.self.now in let page = c.args.page in let from = c.args.from in
    let found = first_run walk.0 c.in_ok-at.at c.in_ok-at.len (c.in_ok-at.ensures walk.0 (subst (λ (g : MemoryState). Queue 0 (page_of g.bytes c.args.page) c.args.queue walk.0) (sym c.self.view_is) (walk_queue c.args.self.now c.args.page c.args.from c.args.queue c.requires.from walk))) in
    let r = found.0 in let splits = walk_splits m page from c.args.queue c.requires.from walk r found.1 found.2 in
    let up = splits.0 in let at = c.in_ok-at.at in let len = c.in_ok-at.len in
    let queue = c.next_head.ensures (8 * from - 4096 * page) r found.1 (subst (λ (g : MemoryState). Queue (8 * from - 4096 * page) (page_of g.bytes page) c.args.queue (r ∷ found.1)) (sym c.self.view_is) splits) in
    let on = walk_on m page from c.args.queue c.requires.from walk r found.1 found.2 c.next_head.result (subst (λ (g : MemoryState). Queue (r.from + r.len + 1) (page_of g.bytes page) c.next_head.result found.1) c.self.view_is queue) in
    let is : 512 * page + r.from / 8 + r.len / 8 ≡ 512 * page + (at + len) / 8 = omega (arith, up.4, up.5, found.3, found.4) in
    let start : 512 * page + r.from / 8 ≡ 512 * page + at / 8 = omega (arith, found.3) in record {
      run = subst (λ j. IsFreeRun m.held from (512 * page + 512) j (512 * page + (at + len) / 8)) start (subst (λ k. IsFreeRun m.held from (512 * page + 512) (512 * page + r.from / 8) k) is (walk_run m page from c.args.queue c.requires.from walk r found.1 found.2));
      whole = omega (arith, up.4, found.3);
      inside = omega (arith, up.2, found.3, found.4);
      cursor = subst (λ k. IsCursor m page k c.next_head.result) is on;
    }
