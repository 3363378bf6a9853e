use Rattle.std.proofs.Common.{inl, ◌≡◌, ◌∙◌, true, false, [], sym, refl}
use Rattle.mvs_model.specs.Owners.{has_subtask}
use Rattle.task_owner.specs.Tasks.{name_of}
use Rattle.request_forms.proofs.Ending.{ends_state}
use Rattle.request_forms.proofs.machine.Machine.finish.Goals as goal

pub returns-then-has_active_subtasks : goal.returns-then-has_active_subtasks
returns-then-has_active_subtasks c = rw (← c.self.view_is) (
    let o = c.self.inside.tasks.owners in
    let mother : has_subtask o (name_of c.self.inside.tasks c.args.t) ≡ true = sym c.has_active_subtasks.ensures ∙ c.if-has_active_subtasks.true in
    (inl (mother, refl), refl))

pub returns : goal.returns
returns c = rw (← c.self.view_is) (
    let o = c.self.inside.tasks.owners in
    let alone : has_subtask o (name_of c.self.inside.tasks c.args.t) ≡ false = sym c.has_active_subtasks.ensures ∙ c.if-has_active_subtasks.false in
    let ends = ends_state c.self.inside.pools c.release_each.new.pools c.self.inside.store.storage c.release_each.new.store.storage c.self.invariant c.release_each.ensures.agree
    o c.end_alone-freed.new.self.owners (name_of c.self.inside.tasks c.args.t) [] _ c.release_each.ensures.released c.release_each.ensures.gone
    _ refl c.end_alone-freed.ensures.fallen c.end_alone-freed.ensures.ends c.end_alone-freed.ensures.freed in
    ((alone, tt), (refl, ends.0)))
