use Rattle.std.proofs.Common.{◌≡◌, ◌≤◌, length, ap, subst}
use Rattle.area_history.specs.Pools.{pool_left}
use Rattle.area_history.proofs.Ranking.{kept_all}
use Rattle.area_history.proofs.pools.push_left.Goals as goal

pub returns-else-parts-ne0 : goal.returns-else-parts-ne0
returns-else-parts-ne0 c = kept_all 64 c.args.list.now (pool_left c.args.built.now c.args.parts) (ap (pool_left c.args.built.now) c.if-parts-ne0.false) (subst (λ l. length l ≤ 64) c.as_slice.ensures.items c.as_slice.ensures.most)
