use Rattle.std.proofs.Common.{◌≡◌, Some, sym, subst}
use Rattle.std.specs.FinMap.{get}
use Rattle.mvs_model.specs.Pools.{Pool}
use Rattle.cell_pool.specs.Cells.{IsSupply}
use Rattle.cell_pool.specs.Roots.{Root, pools_of}
use Rattle.cell_pool.proofs.PoolFacts.{no_pool, supply_correct}
use Rattle.cell_pool.proofs.pools.Pools.supply.Goals as goal

pub returns-in_err-root : goal.returns-in_err-root
returns-in_err-root c st agree = rw c.from_residual.ensures (no_pool c.args.self.now st agree.parts c.args.name.now (sym c.in_err-root.ensures))

pub returns : goal.returns
returns c st agree =
    subst (λ (r : Root). (pool : Pool) × (get (pools_of c.args.self.now st) c.args.name.now ≡ Some pool) × IsSupply pool (record { has_free = c.has_free.result; subpool = r.subpool; cell_size = r.cell_size; secondary = r.secondary; side = r.side })) (sym c.root.view_is)
    (supply_correct c.args.self.now st agree.parts c.args.name.now c.in_ok-root.root (sym c.in_ok-root.ensures) (agree.counted c.args.name.now c.in_ok-root.root (sym c.in_ok-root.ensures)) c.has_free.result c.has_free.ensures)
