use Rattle.task_owner.proofs.tasks.Tasks.residence.Goals as goal
use Rattle.task_owner.proofs.Reading.{is_seat, residence_is}

pub seat_at-requires : goal.seat_at-requires
seat_at-requires c = is_seat _ _ _ _ _ c.self.view_is c.t.view_is c.requires

pub returns : goal.returns
returns c = residence_is _ _ _ _ _ c.self.view_is c.t.view_is c.self.invariant.0 _ c.seat_at.ensures
