use Rattle.std.proofs.Common.{◌<◌, length, sym, ◌∙◌, arith, None}
use Rattle.task_owner.proofs.tasks.Tasks.entries.Goals as goal
use Rattle.task_owner.proofs.Reading.{is_seat, entry_is, number_is}

pub seat_at-requires : goal.seat_at-requires
seat_at-requires c = is_seat _ _ _ _ _ c.self.view_is c.t.view_is c.requires

pub returns-clause-entries : goal.returns-clause-entries
returns-clause-entries c n low =
    let long : n < length c.seat_at.result.now.numbers = omega arith in
    number_is c.seat_at.result.now n None long low
    ∙ sym (entry_is _ _ _ _ _ c.self.view_is c.t.view_is c.self.invariant.0 _ c.seat_at.ensures n)
