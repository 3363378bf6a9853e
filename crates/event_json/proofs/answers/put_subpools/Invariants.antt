use Rattle.std.proofs.Common.{◌≡◌}
use Rattle.event_json.proofs.answers.put_subpools.Given as goal

abbrev pub invariant-loop-from : goal.invariant-loop-from
invariant-loop-from l = l.members ≡ l.fn.members
