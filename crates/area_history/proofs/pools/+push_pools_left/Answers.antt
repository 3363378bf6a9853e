use Rattle.std.proofs.Common.{◌≡◌, ◌≤◌, [], length, ap, subst, ◌∙◌, ◌++◌, take}
use Rattle.area_history.specs.Pools.{pool_left, pools_left}
use Rattle.area_history.proofs.Ranking.{kept_all, no_items, none_case, push_both}
use Rattle.area_history.proofs.pools.+push_pools_left.Goals as goal

pub returns-in_default : goal.returns-in_default
returns-in_default g t c =
    let none : c.args.pools.now ≡ [] = no_items c.args.pools.now (none_case _ c.split_first.result c.in_default.not-Some c.split_first.ensures.cases) in
    kept_all 64 c.args.list.now (pools_left (g.P.Holdings.parts c.args.step.now) c.args.pools.now) (ap (pools_left (g.P.Holdings.parts c.args.step.now)) none) (subst (λ l. length l ≤ 64) c.as_slice.ensures.items c.as_slice.ensures.most)

pub returns : goal.returns
returns g t c =
    let parts = g.P.Holdings.parts c.args.step.now in
    let built = c.in-Some.built.now in
    push_both 64 c.args.list.now c.push_left.new.list c.push_pools_left.new.list (pool_left built (parts built.pool)) (pools_left parts c.in-Some.others.now) (pools_left parts c.args.pools.now) (c.push_left.ensures ∙ ap (λ n. take 64 (c.args.list.now ++ pool_left built n)) c.parts.ensures) c.push_pools_left.ensures
    (ap (pools_left parts) c.in-Some.ensures.cases.0)
