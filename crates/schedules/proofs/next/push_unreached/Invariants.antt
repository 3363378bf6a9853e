use Rattle.std.proofs.Common.{◌≡◌, ◌++◌, take}
use Rattle.schedules.specs.Next.{unreached}
use Rattle.schedules.proofs.next.push_unreached.Given as goal

abbrev pub invariant-loop-position : goal.invariant-loop-position
invariant-loop-position l = l.schedule.items ≡ l.initial.schedule.items ++ unreached l.lines (take l.position-index l.left)
