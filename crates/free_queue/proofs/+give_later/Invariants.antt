use Rattle.std.proofs.Common.{◌-◌}
use Rattle.free_queue.proofs.+give_later.Given as goal

abbrev pub decreases-give_later : goal.decreases-give_later
decreases-give_later l = 4294967295 - l.head
