use Rattle.std.proofs.Common.{length}
use Rattle.job_script.proofs.subtasks.+set.Given as goal

abbrev pub decreases-set : goal.decreases-set
decreases-set l = length l.items.now
