use Rattle.std.proofs.Common.{◌+◌, ◌-◌, ◌%◌, ◌∙◌, ap, cond, length, subst}
use Rattle.std.specs.Prelude.{◌==◌}
use Rattle.mvs_model.specs.Place.{place_at}
use Rattle.std.specs.Int.{bit_at}
use Rattle.subpool_store.specs.WrittenBytes.{Puts}
use Rattle.cell_pool.proofs.Spelled.{marked}
use Rattle.cell_pool.proofs.words.mark.Goals as goal

pub returns : goal.returns
returns c =
    marked c.args.store.now.storage c.put.new.store.storage c.put-2.new.store.storage c.args.part c.args.cell c.args.taken c.with_bit-changed.result c.args.value c.ranges.taken.fits
    (subst (λ w. Puts c.args.store.now.storage (place_at (c.args.part + 8) (length w)) w c.put.new.store.storage) c.to_be_bytes.ensures c.put.ensures)
    c.put-2.ensures
    (λ k l. c.with_bit-changed.ensures k l ∙ ap (λ b. cond (k == c.args.cell % 8) c.args.value (bit_at b (7 - k) == 1)) c.byte.ensures)
