use Rattle.request_forms.proofs.Accessing.{write_events}
use Rattle.request_forms.proofs.machine.Machine.write.Goals as goal

pub returns : goal.returns
returns c = rw (← c.self.view_is)
    (write_events c.self.inside.pools c.self.inside.store.storage c.self.invariant c.self.inside.tasks.owners c.write_where_granted.result c.write_where_granted.new.store.storage c.args.place c.args.bytes.now c.requires
    (c.write_where_granted.ensures.written c.self.inside.tasks.owners))
