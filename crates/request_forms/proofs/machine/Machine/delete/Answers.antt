use Rattle.request_forms.proofs.machine.Machine.delete.Goals as goal

pub returns : goal.returns
returns c = λ t. rw (← c.self.view_is) (c.delete.ensures.answer c.self.inside.tasks.owners t)
