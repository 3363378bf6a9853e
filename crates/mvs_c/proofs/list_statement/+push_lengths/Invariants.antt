use Rattle.std.proofs.Common.{length}
use Rattle.mvs_c.proofs.list_statement.+push_lengths.Given as goal

abbrev pub decreases-push_lengths : goal.decreases-push_lengths
decreases-push_lengths l = length l.areas.now
