use Rattle.std.proofs.Common.{◌<◌, length, sym, ap, ◌∙◌, arith}
use Rattle.mvs_model.specs.Owners.{entry}
use Rattle.task_owner.specs.Tasks.{name_of}
use Rattle.task_owner.proofs.tasks.Tasks.entry.Goals as goal
use Rattle.task_owner.proofs.Reading.{is_seat, entry_is, number_is}

pub seat_at-requires : goal.seat_at-requires
seat_at-requires c = is_seat _ _ _ _ _ c.self.view_is c.t.view_is c.requires

pub returns : goal.returns
returns c =
    let long : c.get.result < length c.seat_at.result.now.numbers = omega arith in
    number_is c.seat_at.result.now c.get.result _ long c.get.ensures.low
    ∙ sym (entry_is _ _ _ _ _ c.self.view_is c.t.view_is c.self.invariant.0 _ c.seat_at.ensures c.get.result)
    ∙ ap (entry c.args.self.now.owners (name_of c.args.self.now c.args.t)) c.get.ensures.value
