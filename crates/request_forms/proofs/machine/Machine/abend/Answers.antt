use Rattle.std.proofs.Common.{refl}
use Rattle.task_owner.specs.Tasks.{name_of}
use Rattle.request_forms.proofs.Ending.{ends_state}
use Rattle.request_forms.proofs.machine.Machine.abend.Goals as goal

pub returns : goal.returns
returns c = rw (← c.self.view_is)
    (ends_state c.self.inside.pools c.release_each.new.pools c.self.inside.store.storage c.release_each.new.store.storage c.self.invariant c.release_each.ensures.agree
    c.self.inside.tasks.owners c.end-gone.new.self.owners (name_of c.self.inside.tasks c.args.t) c.end-gone.result.fallen _ c.release_each.ensures.released c.release_each.ensures.gone
    _ refl c.end-gone.ensures.fallen c.end-gone.ensures.ends c.end-gone.ensures.freed)
