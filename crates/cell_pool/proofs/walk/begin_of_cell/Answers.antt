use Rattle.std.proofs.Common.{◌+◌, ap, arith}
use Rattle.cell_pool.proofs.Within.{no_cell, no_cell_here, here}
use Rattle.cell_pool.proofs.walk.begin_of_cell.Goals as goal

pub returns-in_err-found-clause-cell : goal.returns-in_err-found-clause-cell
returns-in_err-found-clause-cell c = rw c.from_residual.ensures (no_cell c.args.store.now.storage c.args.root.now c.requires c.args.addr c.in_err-found.ensures)

pub returns-in_err-cell-clause-cell : goal.returns-in_err-cell-clause-cell
returns-in_err-cell-clause-cell c = rw c.from_residual-in_err-cell.ensures (no_cell_here c.args.store.now.storage c.args.root.now c.requires c.args.addr _ _ _ c.in_ok-found.ensures.0 c.in_ok-found.ensures.1 _ _ (ap (λ n. c.in_ok-found.found.part + n) c.bytes_before.ensures) c.cell_size-size.ensures.size c.in_err-cell.ensures)

pub returns-clause-cell : goal.returns-clause-cell
returns-clause-cell c =
    let e = c.in_ok-cell.ensures in let size = c.cell_size-size.ensures.size in (
      here c.args.store.now.storage c.args.root.now c.requires c.args.addr _ _ _ c.in_ok-found.ensures.0 c.in_ok-found.ensures.1 _ _ (ap (λ n. c.in_ok-found.found.part + n) c.bytes_before.ensures) size _ e.0 e.1 e.2,
      e.1,
      omega (arith, e.2, size),
    )
