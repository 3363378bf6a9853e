use Rattle.std.proofs.Common.{◌≡◌}
use Rattle.event_json.proofs.effects.put_fates.Given as goal

abbrev pub invariant-loop-subpool : goal.invariant-loop-subpool
invariant-loop-subpool l = l.members ≡ l.fn.members
