use Rattle.std.proofs.Common.{◌≡◌}
use Rattle.event_json.proofs.answers.put_areas.Given as goal

abbrev pub invariant-loop-place : goal.invariant-loop-place
invariant-loop-place l = l.members ≡ l.fn.members
