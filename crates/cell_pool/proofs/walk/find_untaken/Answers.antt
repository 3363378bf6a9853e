use Rattle.std.proofs.Common.{◌∙◌, sym}
use Rattle.cell_pool.proofs.Untaken.{free_there, no_free}
use Rattle.cell_pool.proofs.walk.find_untaken.Goals as goal

pub returns-in_err-begun : goal.returns-in_err-begun
returns-in_err-begun c = rw c.from_residual.ensures (λ f. c.in_err-begun.ensures f.0)

pub returns-then-flag : goal.returns-then-flag
returns-then-flag c = let b = c.in_ok-begun.ensures in no_free c.args.store.now.storage c.args.root.now c.requires.chain c.args.addr _ _ _ _ b.0 b.2 b.3 (sym c.flag.ensures ∙ c.if-flag.true)

pub returns : goal.returns
returns c =
    let b = c.in_ok-begun.ensures in (
      free_there c.args.store.now.storage c.args.root.now c.requires.chain c.args.addr _ _ _ _ b.0 b.2 b.3 c.requires.counted _ c.open_part.ensures (sym c.flag.ensures ∙ c.if-flag.false),
      b.0.cells,
      b.3,
    )
