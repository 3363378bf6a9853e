use Rattle.std.proofs.Common.{◌≡◌}
use Rattle.event_json.proofs.answers.put_abend.Given as goal

abbrev pub invariant-loop-name : goal.invariant-loop-name
invariant-loop-name l = l.members ≡ l.fn.members
