use Rattle.std.proofs.Common.{nat_le, sym, ap, ◌∙◌}
use Rattle.task_owner.proofs.tasks.Tasks.is_full.Goals as goal
use Rattle.task_owner.proofs.Refusing.{len_is}

pub returns : goal.returns
returns c = ap (nat_le 32) (c.len.ensures ∙ sym (len_is _ _ _ c.self.view_is c.self.invariant.0))
