use Rattle.std.proofs.Common.{◌≡◌, ◌+◌, ◌-◌, ◌≤◌, length, map, take}
use Rattle.mvs_job.specs.Consuming.{HasRun}
use Rattle.schedules.specs.InOrder.{knows_with_numbers, lines_at, with_numbers}
use Rattle.schedules.proofs.in_order.run_numbers.Given as goal

abbrev pub invariant-lines : goal.invariant-lines
invariant-lines g l = record {
  run : HasRun (with_numbers l.numbers g.C.Consumer.piece) (knows_with_numbers l.numbers (g.C.Consumer.knows l.initial.consumer)) (g.W.Write.contents l.initial.writer.inner) (g.W.Write.contents l.writer.inner) (lines_at (map (λ x. x.now) l.lines) (take l.at l.numbers)) l.walk l.consumer;
  within : l.at ≤ length l.numbers;
  number : l.walk.number ≡ l.at + 1;
  same : l.writer.failed ≡ l.initial.writer.failed;
}

abbrev pub decreases-lines : goal.decreases-lines
decreases-lines g l = length l.numbers - l.at
