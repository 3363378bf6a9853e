use Rattle.std.proofs.Common.{take}
use Rattle.schedules.specs.Filling.{Fills}
use Rattle.schedules.proofs.tally.add_rows.Given as goal

abbrev pub invariant-loop-answer : goal.invariant-loop-answer
invariant-loop-answer l = Fills l.schedule (take l.answer-index l.schedule) l.initial.rows.items l.rows.items
