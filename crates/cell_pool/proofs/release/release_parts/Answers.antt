use Rattle.std.proofs.Common.{◌∙◌, sym, arith}
use Rattle.cell_pool.specs.Layout.{byte_of}
use Rattle.cell_pool.proofs.Walking.{next_addr, first_addr}
use Rattle.cell_pool.proofs.Released.{drops_none, stands_at, next_is, drops_more}
use Rattle.cell_pool.proofs.release.release_parts.Goals as goal

pub walk-init : goal.walk-init
walk-init c = (c.first-part.ensures.first ∙ sym (first_addr (byte_of c.args.store.now.storage) c.args.root.now.first), drops_none c.args.store.now.storage c.args.root.now c.requires.storage)

pub release_part-part-requires : goal.release_part-part-requires
release_part-part-requires c = stands_at c.args.store.now.storage c.args.root.now c.requires.chain c.walk.number (omega arith) c.walk.store.storage c.walk.invariant.1 c.walk.part c.walk.invariant.0

pub walk-preserved : goal.walk-preserved
walk-preserved c = (
  c.release_part-part.ensures.next ∙ next_is c.args.store.now.storage c.args.root.now c.requires.chain c.walk.number (omega arith) c.walk.store.storage c.walk.invariant.1 c.walk.part c.walk.invariant.0
      ∙ sym (next_addr (byte_of c.args.store.now.storage) c.args.root.now.first c.walk.number),
  drops_more c.args.store.now.storage c.args.root.now c.requires.chain c.walk.number (omega arith) c.walk.store.storage c.walk.invariant.1 c.walk.part c.walk.invariant.0 _ c.release_part-part.ensures.released c.release_part-part.ensures.storage,
)
