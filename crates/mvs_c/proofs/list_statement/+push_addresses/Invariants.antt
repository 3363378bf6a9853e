use Rattle.std.proofs.Common.{length}
use Rattle.mvs_c.proofs.list_statement.+push_addresses.Given as goal

abbrev pub decreases-push_addresses : goal.decreases-push_addresses
decreases-push_addresses l = length l.areas.now
