use Rattle.std.proofs.Common.{◌≡◌, ◌+◌, ◌*◌, ◌/◌, ◌<◌, length, sym, ap, ◌∙◌, arith}
use Rattle.cell_pool.specs.Layout.{byte_of, flag}
use Rattle.cell_pool.proofs.Opening.{lent_flag, not_all, low_cell}
use Rattle.cell_pool.proofs.open.first_free.Goals as goal

pub unreachable-requires : goal.unreachable-requires
unreachable-requires c =
    let size : length c.bytes-flags.result.now ≡ 8 * ((c.args.count + 63) / 64) = c.bytes-flags.ensures.len ∙ ap (λ p. p.len) c.new-2.ensures in
    not_all c.args.count (flag (byte_of c.args.store.now.storage) c.args.part) c.requires.free
    (λ i l. sym (lent_flag c.args.store.now.storage c.new-2.result c.new.result c.args.part _ i c.bytes-flags.result.now c.new-2.ensures c.new.ensures c.bytes-flags.ensures.len c.bytes-flags.ensures.bytes (omega arith)) ∙ c.in-None.ensures i (omega arith))

pub returns-clause-within : goal.returns-clause-within
returns-clause-within c =
    let size : length c.bytes-flags.result.now ≡ 8 * ((c.args.count + 63) / 64) = c.bytes-flags.ensures.len ∙ ap (λ p. p.len) c.new-2.ensures in
    let e = c.in-Some.ensures in
    let high : c.in-Some.cell < 8 * length c.bytes-flags.result.now = e.0 in
    low_cell c.args.count c.in-Some.cell (flag (byte_of c.args.store.now.storage) c.args.part) c.requires.free
    (λ i l. sym (lent_flag c.args.store.now.storage c.new-2.result c.new.result c.args.part _ i c.bytes-flags.result.now c.new-2.ensures c.new.ensures c.bytes-flags.ensures.len c.bytes-flags.ensures.bytes (omega arith)) ∙ e.2 i l)

pub returns-clause-clear : goal.returns-clause-clear
returns-clause-clear c =
    let size : length c.bytes-flags.result.now ≡ 8 * ((c.args.count + 63) / 64) = c.bytes-flags.ensures.len ∙ ap (λ p. p.len) c.new-2.ensures in
    let e = c.in-Some.ensures in
    let high : c.in-Some.cell < 8 * length c.bytes-flags.result.now = e.0 in
    sym (lent_flag c.args.store.now.storage c.new-2.result c.new.result c.args.part _ c.in-Some.cell c.bytes-flags.result.now c.new-2.ensures c.new.ensures c.bytes-flags.ensures.len c.bytes-flags.ensures.bytes (omega arith)) ∙ e.1
