use Rattle.std.proofs.Common.{sym, ap, ◌∙◌, arith}
use borrow.Author.Count.{below_more}
use Rattle.cell_pool.specs.Layout.{byte_of, next_at}
use Rattle.cell_pool.proofs.Walking.{next_addr, first_addr, missed, none_past, past_next, found_at}
use Rattle.cell_pool.proofs.walk.find_part.Goals as goal

pub walk-init : goal.walk-init
walk-init c = (c.first-part.ensures.first ∙ sym (first_addr (byte_of c.args.store.now.storage) c.args.root.now.first), λ j l. absurd (omega arith), none_past (byte_of c.args.store.now.storage) c.args.root.now)

pub walk-preserved : goal.walk-preserved
walk-preserved c = (
  c.read_header-header.ensures.next ∙ ap (next_at (byte_of c.args.store.now.storage)) c.walk.invariant.0 ∙ sym (next_addr (byte_of c.args.store.now.storage) c.args.root.now.first c.walk.number),
  below_more _ _ c.walk.invariant.1 (missed (byte_of c.args.store.now.storage) c.args.root.now c.walk.number c.walk.part c.length_of.result c.cell_size.result c.read_header-header.result.count c.args.addr c.is_in.result c.walk.invariant.0 c.length_of.ensures c.cell_size.ensures.size c.read_header-header.ensures.count c.is_in.ensures c.if-is_in.false),
  past_next (byte_of c.args.store.now.storage) c.args.root.now c.walk.number c.walk.part c.walk.past c.is_past-past.result c.walk.invariant.0 c.walk.invariant.2 c.is_past-past.ensures,
)

pub returns-then-is_in : goal.returns-then-is_in
returns-then-is_in c = (
  record {
    number = c.walk.number;
    is_part = omega arith;
    addr = c.walk.invariant.0;
    cells = c.read_header-header.ensures.count;
    of_taken = c.read_header-header.ensures.taken;
    of_past = past_next (byte_of c.args.store.now.storage) c.args.root.now c.walk.number c.walk.part c.walk.past c.is_past-past.result c.walk.invariant.0 c.walk.invariant.2 c.is_past-past.ensures;
  },
  found_at c.walk.part c.length_of.result c.cell_size.result c.args.root.now.cell_size c.read_header-header.result.count c.args.addr c.is_in.result c.length_of.ensures c.cell_size.ensures.size c.is_in.ensures c.if-is_in.true,
)
