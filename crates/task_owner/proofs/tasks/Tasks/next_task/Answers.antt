use Rattle.task_owner.proofs.NextNames.{next_is}
use Rattle.task_owner.proofs.tasks.Tasks.next_task.Goals as goal

pub returns : goal.returns
returns c = next_is _ _ _ _ c.self.view_is c.self.invariant.0 _ c.find_next.ensures
