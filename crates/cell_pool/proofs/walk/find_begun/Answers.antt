use Rattle.std.proofs.Common.{◌+◌, ◌*◌, ◌∙◌, ap}
use Rattle.cell_pool.proofs.Within.{none_begins}
use Rattle.cell_pool.proofs.Untaken.{none_there}
use Rattle.cell_pool.proofs.walk.find_begun.Goals as goal

pub returns-in_err-found : goal.returns-in_err-found
returns-in_err-found c = rw c.from_residual.ensures (none_there c.args.store.now.storage c.args.root.now c.requires c.args.addr c.in_err-found.ensures)

pub returns-in_err-cell : goal.returns-in_err-cell
returns-in_err-cell c = rw c.from_residual-in_err-cell.ensures (none_begins c.args.store.now.storage c.args.root.now c.requires c.args.addr _ _ _ c.in_ok-found.ensures.0 c.in_ok-found.ensures.1 _ _ (ap (λ n. c.in_ok-found.found.part + n) c.bytes_before.ensures) c.cell_size.ensures.size c.in_err-cell.ensures)

pub returns : goal.returns
returns c = (
  c.in_ok-found.ensures.0,
  c.in_ok-found.ensures.1,
  c.in_ok-cell.ensures.0,
  c.in_ok-cell.ensures.1 ∙ (λ k. (c.in_ok-found.found.part + c.bytes_before.ensures k) + c.in_ok-cell.cell * c.cell_size.ensures.size k),
)
