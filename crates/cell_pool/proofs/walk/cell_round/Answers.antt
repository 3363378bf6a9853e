use Rattle.std.proofs.Common.{◌+◌, sym, ap, ◌∙◌}
use Rattle.mvs_model.specs.Place.{place_at}
use Rattle.cell_pool.proofs.Within.{no_part, no_number, small, set_cell, clear_cell}
use Rattle.cell_pool.proofs.walk.cell_round.Goals as goal

pub returns-in_err-found : goal.returns-in_err-found
returns-in_err-found c = rw c.from_residual.ensures (no_part c.args.store.now.storage c.args.root.now c.requires c.args.addr c.in_err-found.ensures)

pub returns-in_err-cell : goal.returns-in_err-cell
returns-in_err-cell c = rw c.from_residual-in_err-cell.ensures (no_number c.args.store.now.storage c.args.root.now c.requires c.args.addr _ _ _ c.in_ok-found.ensures.0 c.in_ok-found.ensures.1 _ _ (ap (λ n. c.in_ok-found.found.part + n) c.bytes_before.ensures) c.cell_size-size.ensures.size c.in_err-cell.ensures)

pub returns-then-not-flag : goal.returns-then-not-flag
returns-then-not-flag c = let e = c.in_ok-cell.ensures in clear_cell c.args.store.now.storage c.args.root.now c.requires c.args.addr _ _ _ c.in_ok-found.ensures.0 c.in_ok-found.ensures.1 _ _ (ap (λ n. c.in_ok-found.found.part + n) c.bytes_before.ensures) c.cell_size-size.ensures.size _ e.0 e.1 e.2 (sym c.flag.ensures ∙ c.if-not-flag.true)

pub returns : goal.returns
returns c =
    let e = c.in_ok-cell.ensures in
    set_cell c.args.store.now.storage c.args.root.now c.requires c.args.addr _ _ _ c.in_ok-found.ensures.0 c.in_ok-found.ensures.1 _ _ (ap (λ n. c.in_ok-found.found.part + n) c.bytes_before.ensures) c.cell_size-size.ensures.size _ e.0 e.1 e.2
    c.new-2.result (c.new-2.ensures ∙ ap (λ b. place_at b c.cell_size-size.result) c.new.ensures) (sym c.flag.ensures ∙ c.if-not-flag.false)

pub new-requires : goal.new-requires
new-requires c =
    let e = c.in_ok-cell.ensures in
    small c.args.store.now.storage c.args.root.now c.requires c.args.addr _ _ _ c.in_ok-found.ensures.0 c.in_ok-found.ensures.1 _ _ (ap (λ n. c.in_ok-found.found.part + n) c.bytes_before.ensures) c.cell_size-size.ensures.size _ e.0 e.1 e.2
