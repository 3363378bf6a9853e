use Rattle.std.proofs.Common.{◌∙◌, ap, sym, Some, is_some}
use Rattle.std.specs.FinMap.{get}
use Rattle.task_owner.proofs.tasks.Tasks.find.Goals as goal
use Rattle.task_owner.proofs.Reading.{no_task, a_task, name_at_is}
use Rattle.task_owner.proofs.Keeping.{kept_at}

pub returns-clause-active : goal.returns-clause-active
returns-clause-active c =
    let r = c.in_ok-key.ensures in
    sym (ap (λ n. is_some (get c.args.self.now.owners.tasks n)) (sym r.2) ∙ ap is_some (a_task _ _ _ _ r.0 c.self.view_is c.self.invariant.0 r.1))

pub returns-clause-named : goal.returns-clause-named
returns-clause-named c = name_at_is _ _ _ _ c.in_ok-key.ensures.0 c.self.view_is c.in_ok-key.ensures.1 ∙ ap Some c.in_ok-key.ensures.2

pub returns-in_err-key-clause-active : goal.returns-in_err-key-clause-active
returns-in_err-key-clause-active c = rw c.from_residual.ensures (sym (ap is_some (no_task _ _ _ _ c.self.view_is c.in_err-key.ensures)))

pub returns-clause-kept : goal.returns-clause-kept
returns-clause-kept c = kept_at _ _ _ c.self.view_is c.self.invariant.0 c.self.invariant.1 c.self.invariant.2

pub returns-in_err-key-clause-kept : goal.returns-in_err-key-clause-kept
returns-in_err-key-clause-kept c = kept_at _ _ _ c.self.view_is c.self.invariant.0 c.self.invariant.1 c.self.invariant.2
