use Rattle.std.proofs.Common.{length}
use Rattle.area_history.proofs.largest.+shift.Given as goal

abbrev pub decreases-shift : goal.decreases-shift
decreases-shift l = length l.leaks.now
