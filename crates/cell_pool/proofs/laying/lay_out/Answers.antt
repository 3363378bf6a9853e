use Rattle.std.proofs.Common.{◌+◌, ◌*◌, ◌/◌, ap, subst, ◌∙◌}
use Rattle.mvs_model.specs.Place.{place_at}
use Rattle.cell_pool.specs.Walk.{Fills}
use Rattle.cell_pool.proofs.LaidOut.{lays_out}
use Rattle.cell_pool.proofs.laying.lay_out.Goals as goal

pub returns : goal.returns
returns c =
    lays_out c.args.store.now.storage c.put_word.new.store.storage c.put_word-2.new.store.storage c.put_word-3.new.store.storage c.put_word-4.new.store.storage c.fill.new.store.storage c.args.part c.args.count c.args.size c.put_word.ensures c.put_word-2.ensures c.put_word-3.ensures c.put_word-4.ensures
    (subst (λ q. Fills c.put_word-4.new.store.storage q 0 c.fill.new.store.storage) (c.new-2.ensures ∙ ap (λ b. place_at b (8 * ((c.args.count + 63) / 64))) c.new.ensures) c.fill.ensures)
