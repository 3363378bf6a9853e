use Rattle.std.proofs.Common.{sym, ap, ◌∙◌, arith}
use borrow.Author.Count.{below_more}
use Rattle.cell_pool.specs.Layout.{byte_of, next_at}
use Rattle.cell_pool.proofs.Walking.{next_addr, first_addr}
use Rattle.cell_pool.proofs.Meeting.{len_at, meets_at, misses_at}
use Rattle.cell_pool.proofs.walk.meets.Goals as goal

pub walk-init : goal.walk-init
walk-init c = (c.first-part.ensures.first ∙ sym (first_addr (byte_of c.args.store.now.storage) c.args.root.now.first), λ j l. absurd (omega arith))

pub returns-then-overlaps : goal.returns-then-overlaps
returns-then-overlaps c =
    meets_at c.args.store.now.storage c.args.root.now c.requires c.walk.number (omega arith) c.args.place (let s = c.len.ensures.some in let l = c.len.ensures.len in omega arith) c.walk.part c.length_of-len.result c.get.result c.len.result c.walk.invariant.0
    (len_at (byte_of c.args.store.now.storage) c.args.root.now c.walk.number c.walk.part _ _ _ c.walk.invariant.0 c.length_of-len.ensures c.cell_size.ensures.size c.read_header-header.ensures.count)
    (c.get.ensures.value ∙ c.addr.ensures) c.len.ensures.len c.if-overlaps.ensures

pub walk-preserved : goal.walk-preserved
walk-preserved c = (
  c.read_header-header.ensures.next ∙ ap (next_at (byte_of c.args.store.now.storage)) c.walk.invariant.0 ∙ sym (next_addr (byte_of c.args.store.now.storage) c.args.root.now.first c.walk.number),
  below_more _ _ c.walk.invariant.1
      (misses_at c.args.store.now.storage c.args.root.now c.requires c.walk.number (omega arith) c.args.place (let s = c.len.ensures.some in let l = c.len.ensures.len in omega arith) c.walk.part c.length_of-len.result c.get.result c.len.result c.walk.invariant.0
      (len_at (byte_of c.args.store.now.storage) c.args.root.now c.walk.number c.walk.part _ _ _ c.walk.invariant.0 c.length_of-len.ensures c.cell_size.ensures.size c.read_header-header.ensures.count)
      (c.get.ensures.value ∙ c.addr.ensures) c.len.ensures.len c.if-overlaps.ensures),
)

pub returns : goal.returns
returns c m = c.walk.invariant.1 m.0 (let l = m.2 in omega arith) m.1 m.3 m.4
