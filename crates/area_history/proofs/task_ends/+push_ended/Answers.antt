use Rattle.std.proofs.Common.{◌≡◌, ◌≤◌, [], ◌∷◌, ◌++◌, length, map, take, ap, subst, ◌∙◌}
use Rattle.area_history.specs.Histories.{ended_at}
use Rattle.area_history.proofs.Ranking.{kept_all, no_items, none_case, push_then}
use Rattle.area_history.proofs.task_ends.+push_ended.Goals as goal

pub returns-in_default : goal.returns-in_default
returns-in_default t c =
    let none : c.args.tasks.now ≡ [] = no_items c.args.tasks.now (none_case _ c.split_first.result c.in_default.not-Some c.split_first.ensures.cases) in
    kept_all 32 c.args.list.now (map (ended_at c.args.events.now) c.args.tasks.now) (ap (map (ended_at c.args.events.now)) none) (subst (λ l. length l ≤ 32) c.as_slice.ensures.items c.as_slice.ensures.most)

pub returns : goal.returns
returns t c =
    let at = ended_at c.args.events.now in
    push_then 32 c.args.list.now c.push.new.list c.push_ended.new.list (at c.in-Some.task.now) (map at c.in-Some.tasks.now) (map at c.args.tasks.now) (c.push.ensures ∙ ap (λ e. take 32 (c.args.list.now ++ e ∷ [])) c.ended_at.ensures) c.push_ended.ensures (ap (map at) c.in-Some.ensures.cases.0)
