use Rattle.std.proofs.Common.{arith, ℕ, ◌≡◌, ◌≤◌, ◌<◌, ◌-◌, ap}
use Rattle.std.specs.List.{slice_index_or}
use Rattle.std.proofs.lemmas.List.{get_or_default}
use Rattle.mvs_job.proofs.name_order.count_up_to.Goals as goal

pub returns-then-order-at-clause-before : goal.returns-then-order-at-clause-before
returns-then-order-at-clause-before c k d below =
    let up : (slice_index_or c.args.order.now k d).1 ≤ (slice_index_or c.args.order.now (c.names.at - 1) d).1 = c.requires k (c.names.at - 1) d (omega arith) (omega arith) in
    let is : (slice_index_or c.args.order.now (c.names.at - 1) d).1 ≡ (slice_index_or c.args.order.now (c.names.at - 1) c.index-order-at.result).1 = ap (λ e. e.1) (get_or_default c.args.order.now (c.names.at - 1) d c.index-order-at.result (omega arith)) in
    omega (arith, up, is, c.if-order-at.true)
