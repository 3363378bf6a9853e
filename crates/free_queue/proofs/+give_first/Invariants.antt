use Rattle.std.proofs.Common.{◌-◌}
use Rattle.free_queue.proofs.+give_first.Given as goal

abbrev pub decreases-give_first : goal.decreases-give_first
decreases-give_first l = 4294967295 - l.head
