use Rattle.request_forms.proofs.Rooms.{room_found}
use Rattle.request_forms.proofs.machine.Machine.room.Goals as goal

pub returns-clause-room : goal.returns-clause-room
returns-clause-room c = rw (← c.self.view_is) (
    let s = c.self.inside in
    room_found s.pools s.store.storage s.tasks.owners c.args.subpool c.args.want.now c.room_in.result c.self.invariant c.room_in.ensures)
