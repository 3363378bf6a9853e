use Rattle.std.proofs.Common.{arith, sym, ◌∙◌}
use Rattle.std.proofs.lemmas.List.Filters.{FiltersInPlace-more_swap, FiltersInPlace-more_no}
use Rattle.mvs_job.proofs.name_order.drop_former.Goals as goal

pub names-preserved : goal.names-preserved
names-preserved c = elim c.if-is_latest.branch [
  | goal.then-is_latest w ↦ rw (w.order-is, w.kept-is) (FiltersInPlace-more_swap c.names.invariant (omega arith) (sym c.is_latest.ensures ∙ w.if-is_latest.true) c.index.ensures w.swap.ensures.by_index)
  | goal.else-is_latest w ↦ rw (w.order-is, w.kept-is) (FiltersInPlace-more_no c.names.invariant (omega arith) (sym c.is_latest.ensures ∙ w.if-is_latest.false) c.index.ensures)
]
