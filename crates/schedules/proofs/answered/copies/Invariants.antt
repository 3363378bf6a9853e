use Rattle.std.proofs.Common.{◌≡◌, take}
use Rattle.schedules.proofs.answered.copies.Given as goal

abbrev pub invariant-loop-answer : goal.invariant-loop-answer
invariant-loop-answer l = l.copies.items ≡ take l.answer-index l.answers
