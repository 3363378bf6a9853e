use Rattle.std.proofs.Common.{◌≡◌, ◌*◌}
use Rattle.slab.specs.Slab.{get}
use Rattle.mvs_model.specs.Finite.{any_below, count_below}
use Rattle.mvs_model.specs.Storage.{end_of}
use Rattle.cell_pool.specs.Layout.{byte_of}
use Rattle.cell_pool.specs.Report.{is_in_entry}
use Rattle.cell_pool.proofs.report.bytes_in.Given as goal

abbrev pub invariant-loop-key : goal.invariant-loop-key
invariant-loop-key l = l.bytes ≡ 8 * count_below (end_of l.store.storage.regions) (λ d. any_below (λ k. is_in_entry (byte_of l.store.storage) l.subpool (get l.entries k) d) l.key)
