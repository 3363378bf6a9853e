use Rattle.std.proofs.Common.{◌≡◌, ◌<◌, ◌≤◌, ◌+◌, ◌*◌, ◌^◌, ◌++◌, take, ap, sym, subst, ◌∙◌, arith}
use Rattle.area_history.specs.Totals.{AreWithin, added, by_subpool, by_task, group_of_subpool, group_of_task}
use Rattle.area_history.proofs.Ranking.{totals_first, within_added, within_first}
use Rattle.area_history.proofs.Tallying.{leak_some}
use Rattle.area_history.proofs.largest.Leaks.add.Goals as goal

pub returns-clause-subpools : goal.returns-clause-subpools
returns-clause-subpools c others is =
    let some : 0 < c.args.doublewords = omega (arith, c.if-doublewords-eq0.false) in
    c.add_leak.ensures.subpools ∙ totals_first (group_of_subpool c.args.grant.now) (8 * c.args.doublewords) c.args.self.now.subpools (by_subpool others) is ∙ ap (λ ls. take 10 (by_subpool (ls ++ others))) (sym (leak_some c.args.grant.now c.args.doublewords some))

pub returns-clause-tasks : goal.returns-clause-tasks
returns-clause-tasks c others is =
    let some : 0 < c.args.doublewords = omega (arith, c.if-doublewords-eq0.false) in
    c.add_leak.ensures.tasks ∙ totals_first (group_of_task c.args.grant.now) (8 * c.args.doublewords) c.args.self.now.tasks (by_task others) is ∙ ap (λ ls. take 10 (by_task (ls ++ others))) (sym (leak_some c.args.grant.now c.args.doublewords some))

pub returns-clause-within_subpools : goal.returns-clause-within_subpools
returns-clause-within_subpools c =
    let most : 8 * c.args.doublewords ≤ 2 ^ 31 = omega (arith, c.requires.most) in
    let more = within_first (c.args.self.now.count + 1) 10 _ (within_added c.args.self.now.count (group_of_subpool c.args.grant.now) (8 * c.args.doublewords) c.args.self.now.subpools most c.requires.subpools) in
    subst (λ n. AreWithin n c.add_leak.new.self.subpools) (sym c.add_leak.ensures.count) (subst (AreWithin (c.args.self.now.count + 1)) (sym c.add_leak.ensures.subpools) more)

pub returns-clause-within_tasks : goal.returns-clause-within_tasks
returns-clause-within_tasks c =
    let most : 8 * c.args.doublewords ≤ 2 ^ 31 = omega (arith, c.requires.most) in
    let more = within_first (c.args.self.now.count + 1) 10 _ (within_added c.args.self.now.count (group_of_task c.args.grant.now) (8 * c.args.doublewords) c.args.self.now.tasks most c.requires.tasks) in
    subst (λ n. AreWithin n c.add_leak.new.self.tasks) (sym c.add_leak.ensures.count) (subst (AreWithin (c.args.self.now.count + 1)) (sym c.add_leak.ensures.tasks) more)
