use Rattle.std.proofs.Common.{◌≡◌, ◌≤◌, [], length, ap, subst}
use Rattle.area_history.specs.Pools.{standing, standing_one}
use Rattle.area_history.proofs.Ranking.{kept_all, no_items, none_case, push_both}
use Rattle.area_history.proofs.pools.+push_standing.Goals as goal

pub returns-in_default : goal.returns-in_default
returns-in_default g t c =
    let none : c.args.pools.now ≡ [] = no_items c.args.pools.now (none_case _ c.split_first.result c.in_default.not-Some c.split_first.ensures.cases) in
    kept_all 64 c.args.list.now (standing (g.P.Holdings.parts c.args.step.now) c.args.next.now c.args.pools.now) (ap (standing (g.P.Holdings.parts c.args.step.now) c.args.next.now) none) (subst (λ l. length l ≤ 64) c.as_slice.ensures.items c.as_slice.ensures.most)

pub returns : goal.returns
returns g t c =
    let parts = g.P.Holdings.parts c.args.step.now in
    push_both 64 c.args.list.now c.push_if_standing.new.list c.push_standing.new.list (standing_one parts c.args.next.now c.in-Some.built.now) (standing parts c.args.next.now c.in-Some.others.now) (standing parts c.args.next.now c.args.pools.now) c.push_if_standing.ensures c.push_standing.ensures
    (ap (standing parts c.args.next.now) c.in-Some.ensures.cases.0)
