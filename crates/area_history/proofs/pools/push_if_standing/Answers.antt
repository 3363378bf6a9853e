use Rattle.std.proofs.Common.{◌≡◌, ◌≤◌, ◌++◌, ◌∷◌, [], length, take, ap, subst, sym, ◌∙◌}
use Rattle.std.specs.Prelude.{if◌then◌else◌}
use Rattle.area_history.proofs.Ranking.{kept_all}
use Rattle.area_history.specs.Pools.{standing_one}
use Rattle.area_history.proofs.pools.push_if_standing.Goals as goal

pub returns-then-stands : goal.returns-then-stands
returns-then-stands g c =
    let one = ap (λ b. if b then c.args.built.now ∷ [] else []) (sym c.stands.ensures ∙ c.if-stands.true) in
    c.push.ensures ∙ ap (λ x. take 64 (c.args.list.now ++ x)) (sym one)

pub returns-else-stands : goal.returns-else-stands
returns-else-stands g c =
    let none = ap (λ b. if b then c.args.built.now ∷ [] else []) (sym c.stands.ensures ∙ c.if-stands.false) in
    kept_all 64 c.args.list.now (standing_one (g.P.Holdings.parts c.args.step.now) c.args.next.now c.args.built.now) none (subst (λ l. length l ≤ 64) c.as_slice.ensures.items c.as_slice.ensures.most)
