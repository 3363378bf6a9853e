use Rattle.std.proofs.Common.{◌+◌, arith}
use Rattle.mvs_model.specs.Finite.{any_below}
use Rattle.cell_pool.specs.Report.{is_in_entry}
use Rattle.slab.specs.Slab.{get}
use Rattle.mvs_model.specs.Storage.{end_of}
use Rattle.cell_pool.specs.Layout.{byte_of}
use Rattle.cell_pool.proofs.Tallied.{none_of, nothing_of, one_more_of, low_tally}
use Rattle.cell_pool.proofs.report.bytes_in.Goals as goal

pub returns-then-has_none-clause-bytes : goal.returns-then-has_none-clause-bytes
returns-then-has_none-clause-bytes c = nothing_of (byte_of c.args.store.now.storage) c.args.subpool (end_of c.args.store.now.storage.regions) (get c.args.entries.now) (c.has_none.ensures c.if-has_none.true) c.args.entries.now.capacity

pub loop-key-init : goal.loop-key-init
loop-key-init c = none_of (byte_of c.args.store.now.storage) c.args.subpool (end_of c.args.store.now.storage.regions) (get c.args.entries.now)

pub overflow_add-bytes : goal.overflow_add-bytes
overflow_add-bytes c =
    let more = one_more_of (byte_of c.args.store.now.storage) c.args.subpool (end_of c.args.store.now.storage.regions) (get c.args.entries.now) c.requires.apart c.loop-key.key _ _ c.loop-key.invariant c.bytes_at-bytes.ensures in
    let low = low_tally c.args.store.now.storage.regions (λ d. any_below (λ k. is_in_entry (byte_of c.args.store.now.storage) c.args.subpool (get c.args.entries.now k) d) (c.loop-key.key + 1)) c.requires.bounded in
    omega arith

pub loop-key-preserved : goal.loop-key-preserved
loop-key-preserved c = one_more_of (byte_of c.args.store.now.storage) c.args.subpool (end_of c.args.store.now.storage.regions) (get c.args.entries.now) c.requires.apart c.loop-key.key _ _ c.loop-key.invariant c.bytes_at-bytes.ensures
