use Rattle.std.proofs.Common.{◌≡◌, map, take}
use Rattle.schedules.proofs.answered.order_of.Given as goal

abbrev pub invariant-loop-answer : goal.invariant-loop-answer
invariant-loop-answer l = l.order.items ≡ map (λ a. a.line) (take l.answer-index l.schedule)
