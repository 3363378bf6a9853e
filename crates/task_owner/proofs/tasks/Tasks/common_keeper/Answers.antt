use Rattle.std.proofs.Common.{sym, ◌∙◌}
use Rattle.task_owner.proofs.tasks.Tasks.common_keeper.Goals as goal
use Rattle.task_owner.proofs.Keepers.{common_found, common_none}

pub returns : goal.returns
returns c =
    common_found _ _ _ c.self.view_is c.self.invariant.0 c.args.number c.in_ok-key.key c.in_ok-key.ensures.0 (sym c.is_of_step.ensures ∙ c.if-not-is_of_step.false) c.in_ok-key.ensures.1 c.in_ok-key.ensures.2

pub returns-in_err-key : goal.returns-in_err-key
returns-in_err-key c = rw c.from_residual.ensures (common_none _ _ _ c.self.view_is c.self.invariant.0 c.args.number c.in_err-key.ensures)
