use Rattle.std.proofs.Common.{subst, ap}
use Rattle.mvs_model.specs.State.{State}
use Rattle.mvs_model.specs.Steps.{Tries}
use Rattle.mvs_model.specs.declared.request.Reply.TheVariants.{Cell}
use Rattle.mvs_model.specs.declared.request.Request.TheVariants as request
use Rattle.request_forms.specs.Machine.{MachineValue, machine_state}
use Rattle.request_forms.proofs.CellsTaken.{cell_takes}
use Rattle.request_forms.proofs.machine.Machine.get.Goals as goal

pub returns-clause-answer : goal.returns-clause-answer
returns-clause-answer c = λ t.
    subst (λ (old : State). Tries Cell old t (request.Get c.args.pool.now c.args.conditional) c.get.result (machine_state c.get.new.self c.get.new.store.storage c.self.inside.tasks.owners)) (ap (λ (m : MachineValue). m.state) c.self.view_is) (c.get.ensures.answer c.self.inside.tasks.owners t)

pub returns-clause-hints : goal.returns-clause-hints
returns-clause-hints c = rw (← c.self.view_is) (cell_takes (machine_state c.self.inside.pools c.self.inside.store.storage c.self.inside.tasks.owners) c.args.pool.now c.args.hints.now c.first_hint-cell.result c.further_hint-first.result c.get.result c.first_hint-cell.ensures c.further_hint-first.ensures (c.get.ensures.hint c.self.inside.tasks.owners))
