use Rattle.std.proofs.Common.{length}
use Rattle.request_forms.proofs.obtain_list.+grant_each.Given as goal

abbrev pub decreases-grant_each : goal.decreases-grant_each
decreases-grant_each l = length l.lengths.now
