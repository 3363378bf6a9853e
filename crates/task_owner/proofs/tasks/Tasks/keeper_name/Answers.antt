use Rattle.std.proofs.Common.{◌≡◌, Some, is_some, sym, ap, ◌∙◌}
use Rattle.mvs_model.specs.Owners.{effective_task}
use Rattle.task_owner.specs.Tasks.{name_at, name_of}
use Rattle.task_owner.proofs.tasks.Tasks.keeper_name.Goals as goal
use Rattle.task_owner.proofs.Reading.{is_seat, name_at_is}

pub seat_at-requires : goal.seat_at-requires
seat_at-requires c = is_seat _ _ _ _ _ c.self.view_is c.seat_at.view_is (ap is_some c.effective_task.ensures)

pub returns : goal.returns
returns c =
    let e : Some c.seat_at-2.result.now.name ≡ Some (effective_task c.args.self.now.owners (name_of c.args.self.now c.args.t) c.args.number) =
    sym (name_at_is _ _ _ _ _ c.self.view_is c.seat_at-2.ensures) ∙ ap (name_at c.args.self.now) c.seat_at.view_is ∙ c.effective_task.ensures in cc
