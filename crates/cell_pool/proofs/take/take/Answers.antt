use Rattle.std.proofs.Common.{◌≤◌, ap, subst, arith}
use Rattle.cell_pool.specs.Layout.{byte_of, count_at, flag}
use Rattle.cell_pool.specs.Roots.{Root}
use Rattle.cell_pool.specs.Walk.{Fills}
use Rattle.subpool_store.proofs.Counts.{count_most}
use Rattle.cell_pool.proofs.Walking.{few_at}
use Rattle.cell_pool.proofs.Opening.{counts}
use Rattle.cell_pool.proofs.take.take.Goals as goal
use Rattle.std.proofs.Common.{refl}

pub overflow_add-spot : goal.overflow_add-spot
overflow_add-spot c =
    let f = c.requires.free in
    let few : count_at (byte_of c.args.store.now.storage) c.args.spot.part ≤ 65536 = few_at c.args.store.now.storage c.args.root.now c.requires.chain f.number f.is_part c.args.spot.part f.addr _ refl in
    let most = count_most (count_at (byte_of c.args.store.now.storage) c.args.spot.part) (flag (byte_of c.args.store.now.storage) c.args.spot.part) in
    let is = counts c.args.store.now.storage c.args.root.now c.requires.chain f.number f.is_part c.args.spot.part f.addr in
    let of_taken = f.of_taken in
    omega arith

pub returns-clause-taken : goal.returns-clause-taken
returns-clause-taken c = (c.mark.new.store.storage, c.mark.ensures, subst (λ b. Fills c.mark.new.store.storage c.new-place.result b c.fill.new.store.storage) (ap (λ (r : Root). r.fill) c.root.view_is) c.fill.ensures)
