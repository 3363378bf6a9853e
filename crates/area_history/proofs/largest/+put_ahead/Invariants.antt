use Rattle.std.proofs.Common.{length}
use Rattle.area_history.proofs.largest.+put_ahead.Given as goal

abbrev pub decreases-put_ahead : goal.decreases-put_ahead
decreases-put_ahead l = length l.leaks.now
