use Rattle.std.proofs.Common.{length, subst}
use Rattle.mvs_model.specs.Place.{place_at}
use Rattle.subpool_store.specs.WrittenBytes.{Puts}
use Rattle.cell_pool.proofs.LaidOut.{puts_word}
use Rattle.cell_pool.proofs.laying.put_word.Goals as goal

pub returns : goal.returns
returns c = puts_word c.args.store.now.storage c.put.new.store.storage c.args.addr c.args.word c.ranges.word.fits (subst (λ w. Puts c.args.store.now.storage (place_at c.args.addr (length w)) w c.put.new.store.storage) c.to_be_bytes.ensures c.put.ensures)
