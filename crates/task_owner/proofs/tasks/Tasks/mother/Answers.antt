use Rattle.std.proofs.Common.{◌∙◌, ap, sym, Some}
use Rattle.std.specs.Option.{option_map}
use Rattle.task_owner.specs.Seats.{mother_of}
use Rattle.task_owner.specs.declared.task_slot.TaskSlot.{TaskSlot}
use Rattle.task_owner.proofs.tasks.Tasks.mother.Goals as goal
use Rattle.task_owner.proofs.Reading.{is_seat, task_is}

pub seat_at-requires : goal.seat_at-requires
seat_at-requires c = is_seat _ _ _ _ _ c.self.view_is c.t.view_is c.requires

pub returns : goal.returns
returns c =
    ap (option_map (λ task. task.mother)) (task_is _ _ _ _ _ c.self.view_is c.t.view_is c.self.invariant.0 _ c.seat_at.ensures)
    ∙ ap Some (ap (mother_of c.self.inside.active.slots) c.in_ok-mother.was ∙ ap (option_map (λ (x : TaskSlot). x.name)) c.seat_at-2.ensures)

pub returns-in_err-mother : goal.returns-in_err-mother
returns-in_err-mother c =
    ap (option_map (λ task. task.mother)) (task_is _ _ _ _ _ c.self.view_is c.t.view_is c.self.invariant.0 _ c.seat_at.ensures)
    ∙ ap Some (ap (mother_of c.self.inside.active.slots) c.in_err-mother.was) ∙ ap Some (sym c.from_residual.ensures)
