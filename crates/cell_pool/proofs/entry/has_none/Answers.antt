use Rattle.std.proofs.Common.{◌≡◌, ◌∙◌, sym, arith}
use Rattle.std.proofs.lemmas.Bool.Decides.{nat_tests}
use Rattle.slab.specs.Slab.{slab_len}
use Rattle.cell_pool.proofs.Keeping.{none_at}
use Rattle.cell_pool.proofs.entry.has_none.Goals as goal

pub returns : goal.returns
returns c = λ e k. none_at c.args.entries.now.slots k (let n : slab_len c.args.entries.now ≡ 0 = let t = sym c.is_empty.ensures ∙ e in grind (arith, nat_tests) in n)
