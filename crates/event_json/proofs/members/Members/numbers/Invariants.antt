use Rattle.std.proofs.Common.{◌≡◌}
use Rattle.event_json.proofs.members.Members.numbers.Given as goal

abbrev pub invariant-loop-number : goal.invariant-loop-number
invariant-loop-number l = l.self ≡ l.fn.self
