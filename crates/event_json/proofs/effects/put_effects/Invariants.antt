use Rattle.std.proofs.Common.{◌≡◌}
use Rattle.event_json.proofs.effects.put_effects.Given as goal

abbrev pub invariant-loop-fact : goal.invariant-loop-fact
invariant-loop-fact l = l.members ≡ l.fn.members
