use Rattle.request_forms.proofs.Longest.{part_stands}
use Rattle.request_forms.proofs.machine.Machine.part_room.Goals as goal

pub returns : goal.returns
returns c = part_stands c.args.self.now.state c.room.ensures.bounded c.args.subpool c.args.size c.args.cells c.args.side c.part_want.result c.part_want.ensures c.room.result c.room.ensures.room
