use Rattle.std.proofs.Common.{◌≡◌, ◌++◌, ◌∷◌, [], ◌∙◌, List, ap, false, refl, subst, sym, true}
use Rattle.std.proofs.lemmas.Result.{on_ok_weaker}
use Rattle.schedules.specs.Answered.{Schedule}
use Rattle.schedules.specs.Filling.{IsFilled}
use Rattle.schedules.specs.Next.{IsFirstNext, some_can_run, unreached}
use Rattle.schedules.specs.Searching.{Expands}
use Rattle.schedules.proofs.Branches.{so_far_branched, so_far_ended, weight_branched, weight_ended}
use Rattle.schedules.proofs.search.advance.Goals as goal

pub expand-requires : goal.expand-requires
expand-requires c =
    let lines = c.args.lines.now in
    let branch = c.args.branch in
    subst (λ l. IsFirstNext lines branch.walk.value.step l c.in-Some.first) c.deref-2.ensures.value (subst (λ w. IsFirstNext lines w.step c.deref-2.result.now c.in-Some.first) c.deref.ensures c.in-Some.ensures.first)

pub returns-in-Some-clause-so_far : goal.returns-in-Some-clause-so_far
returns-in-Some-clause-so_far c =
    let lines = c.args.lines.now in
    let branch = c.args.branch in
    let can : some_can_run lines branch.walk.value.step [] branch.left.items ≡ true =
    sym (c.in-Some.ensures.some ∙ ap (λ w. some_can_run lines w.step [] c.deref-2.result.now) c.deref.ensures ∙ ap (some_can_run lines branch.walk.value.step []) c.deref-2.ensures.value) in
    on_ok_weaker c.expand.result
    (λ (each : Expands lines branch [] branch.left.items c.args.stack.now.items c.expand.new.stack.items). λ w left f.
    so_far_branched lines w left branch c.args.stack.now.items c.expand.new.stack.items c.args.tally.now c.args.outcomes.now can each f) c.expand.ensures.each

pub returns-in-Some-clause-weight : goal.returns-in-Some-clause-weight
returns-in-Some-clause-weight c = on_ok_weaker c.expand.result (weight_branched c.args.stack.now.items c.expand.new.stack.items c.args.branch) c.expand.ensures.weight

pub returns-in-None-clause-so_far : goal.returns-in-None-clause-so_far
returns-in-None-clause-so_far c =
    let lines = c.args.lines.now in
    let branch = c.args.branch in
    let cannot : some_can_run lines branch.walk.value.step [] branch.left.items ≡ false =
    sym (c.in-None.ensures.some ∙ ap (λ w. some_can_run lines w.step [] c.deref-2.result.now) c.deref.ensures ∙ ap (some_can_run lines branch.walk.value.step []) c.deref-2.ensures.value) in
    let schedule = branch.begun.items ++ unreached lines branch.left.items in
    on_ok_weaker c.add_schedule.result
    (λ (added : (ss : List Schedule) → IsFilled ss c.args.tally.now c.args.outcomes.now → IsFilled (ss ++ schedule ∷ []) c.add_schedule.new.tally c.add_schedule.new.outcomes). λ w left f.
    so_far_ended lines w left branch c.args.stack.now.items c.args.tally.now c.add_schedule.new.tally c.args.outcomes.now c.add_schedule.new.outcomes schedule cannot refl added f) c.add_schedule.ensures.added

pub returns-in-None-clause-weight : goal.returns-in-None-clause-weight
returns-in-None-clause-weight c = on_ok_weaker c.add_schedule.result (λ _. weight_ended c.args.stack.now.items c.args.branch) c.add_schedule.ensures.count
