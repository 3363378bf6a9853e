use Rattle.task_owner.proofs.tasks.Tasks.attach.Goals as goal
use Rattle.task_owner.proofs.Refusing.{passed_by}
use Rattle.task_owner.proofs.Attaching.{still_new, still_room, still_given, attaches}

pub admit-requires-clause-new : goal.admit-requires-clause-new
admit-requires-clause-new c = still_new c.args.self.now c.enter_shared.new.self c.args.mother c.args.name.now c.args.gifts.now c.enter_shared.ensures (passed_by _ c.refusal.result c.refusal.ensures c.in_default.not-Some)

pub admit-requires-clause-room : goal.admit-requires-clause-room
admit-requires-clause-room c = still_room c.args.self.now c.enter_shared.new.self c.args.mother c.args.name.now c.args.gifts.now c.enter_shared.ensures (passed_by _ c.refusal.result c.refusal.ensures c.in_default.not-Some)

pub admit-requires-clause-owned : goal.admit-requires-clause-owned
admit-requires-clause-owned c = still_given c.args.self.now c.enter_shared.new.self c.args.mother c.args.name.now c.args.gifts.now c.enter_shared.ensures (passed_by _ c.refusal.result c.refusal.ensures c.in_default.not-Some)

pub returns-clause-attached : goal.returns-clause-attached
returns-clause-attached c = attaches c.args.self.now c.enter_shared.new.self c.args.mother c.args.name.now c.args.gifts.now c.enter_shared.ensures c.args.residence c.admit.new.self.owners c.admit.ensures.admits
