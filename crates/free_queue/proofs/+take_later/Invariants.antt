use Rattle.std.proofs.Common.{◌-◌}
use Rattle.free_queue.proofs.+take_later.Given as goal

abbrev pub decreases-take_later : goal.decreases-take_later
decreases-take_later l = 4294967295 - l.head
