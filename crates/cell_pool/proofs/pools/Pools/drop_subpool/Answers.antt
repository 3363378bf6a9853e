use Rattle.std.proofs.Common.{◌∙◌}
use Rattle.std.specs.Prelude.{not}
use Rattle.std.specs.FinMap.{get}
use Rattle.mvs_model.specs.Finite.{kept}
use Rattle.mvs_model.proofs.SubpoolSets.{alone}
use Rattle.cell_pool.specs.Roots.{Root}
use Rattle.cell_pool.proofs.pools.Pools.drop_subpool.Goals as goal

pub returns : goal.returns
returns c n =
    c.drop_subpools.ensures n
    ∙ (λ i. kept (λ (r : Root). not ((c.insert.ensures.members r.subpool ∙ alone r.subpool c.args.subpool c.empty-subpools.result c.empty-subpools.ensures) i)) (get c.args.self.now n))
