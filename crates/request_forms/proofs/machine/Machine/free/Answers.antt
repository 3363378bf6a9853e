use Rattle.request_forms.proofs.machine.Machine.free.Goals as goal

pub returns : goal.returns
returns c = λ t. rw (← c.self.view_is) (c.free.ensures.answer c.self.inside.tasks.owners t)
