use Rattle.std.proofs.Common.{◌≤◌, ◌*◌, sym, ap, ◌∙◌, arith}
use Rattle.mvs_model.specs.Finite.{count_below}
use Rattle.mvs_model.specs.Storage.{end_of}
use Rattle.cell_pool.specs.Layout.{byte_of, next_at}
use Rattle.cell_pool.specs.Release.{in_first}
use Rattle.cell_pool.proofs.Walking.{next_addr, first_addr}
use Rattle.cell_pool.proofs.Meeting.{len_at}
use Rattle.cell_pool.proofs.Tallied.{none_tallied, one_tallied, low_tally}
use Rattle.cell_pool.proofs.report.bytes_of.Goals as goal

pub walk-init : goal.walk-init
walk-init c = (c.first-part.ensures.first ∙ sym (first_addr (byte_of c.args.store.now.storage) c.args.root.now.first), none_tallied c.args.store.now.storage c.args.root.now c.requires.chain)

pub overflow_add-bytes : goal.overflow_add-bytes
overflow_add-bytes c =
    let low : 8 * count_below (end_of c.args.store.now.storage.regions) (in_first (byte_of c.args.store.now.storage) c.args.root.now c.walk.number) ≤ 0x3000000 = low_tally c.args.store.now.storage.regions _ c.requires.bounded in
    let is = c.walk.invariant.1 in
    let len = len_at (byte_of c.args.store.now.storage) c.args.root.now c.walk.number c.walk.part _ _ _ c.walk.invariant.0 c.length_of-bytes.ensures c.cell_size.ensures.size c.read_header-header.ensures.count in
    let short = c.requires.chain.low c.walk.number (omega arith) in
    omega arith

pub walk-preserved : goal.walk-preserved
walk-preserved c = (
  c.read_header-header.ensures.next ∙ ap (next_at (byte_of c.args.store.now.storage)) c.walk.invariant.0 ∙ sym (next_addr (byte_of c.args.store.now.storage) c.args.root.now.first c.walk.number),
  one_tallied c.args.store.now.storage c.args.root.now c.requires.chain c.walk.number c.walk.bytes c.length_of-bytes.result (omega arith)
      (len_at (byte_of c.args.store.now.storage) c.args.root.now c.walk.number c.walk.part _ _ _ c.walk.invariant.0 c.length_of-bytes.ensures c.cell_size.ensures.size c.read_header-header.ensures.count)
      c.walk.invariant.1,
)
