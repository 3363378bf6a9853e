use Rattle.std.proofs.Common.{◌∙◌, refl, sym}
use Rattle.cell_pool.proofs.Untaken.{taken_there, untaken}
use Rattle.cell_pool.proofs.Walking.{not_set}
use Rattle.cell_pool.proofs.walk.find_taken.Goals as goal

pub returns-in_err-begun : goal.returns-in_err-begun
returns-in_err-begun c = rw c.from_residual.ensures (untaken c.args.store.now.storage c.args.root.now c.requires c.args.addr c.in_err-begun.ensures)

pub returns-then-not-flag : goal.returns-then-not-flag
returns-then-not-flag c = let b = c.in_ok-begun.ensures in not_set c.args.store.now.storage c.args.root.now c.requires _ _ _ c.args.addr b.0 b.1 _ _ _ refl refl b.3 (sym c.flag.ensures ∙ c.if-not-flag.true)

pub returns : goal.returns
returns c = let b = c.in_ok-begun.ensures in taken_there c.args.store.now.storage c.args.root.now c.requires c.args.addr _ _ _ _ b.0 b.2 b.3 (sym c.flag.ensures ∙ c.if-not-flag.false)
