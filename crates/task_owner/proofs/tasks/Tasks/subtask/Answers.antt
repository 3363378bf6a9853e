use Rattle.task_owner.proofs.tasks.Tasks.subtask.Goals as goal
use Rattle.task_owner.proofs.Subtasks.{child_test, child_correct}

pub returns-clause-active : goal.returns-clause-active
returns-clause-active c = child_test _ _ _ _ _ c.self.view_is c.t.view_is c.self.invariant.0 c.requires _ c.find_child.ensures

pub returns-clause-subtask : goal.returns-clause-subtask
returns-clause-subtask c = child_correct _ _ _ _ _ c.self.view_is c.t.view_is c.self.invariant.0 c.requires _ c.find_child.ensures
