use Rattle.std.proofs.Common.{length}
use Rattle.mvs_c.proofs.list_statement.+push_names.Given as goal

abbrev pub decreases-push_names : goal.decreases-push_names
decreases-push_names l = length l.areas.now
