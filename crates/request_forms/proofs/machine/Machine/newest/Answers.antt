use Rattle.request_forms.proofs.machine.Machine.newest.Goals as goal

pub returns : goal.returns
returns c = rw (← c.self.view_is) c.newest.ensures
