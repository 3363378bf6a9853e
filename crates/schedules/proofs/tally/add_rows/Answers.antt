use Rattle.std.proofs.Common.{take}
use Rattle.schedules.proofs.Tallied.{fills_next, given_here}
use Rattle.schedules.proofs.tally.add_rows.Goals as goal

pub add_row-requires : goal.add_row-requires
add_row-requires c = given_here c.args.schedule.now c.loop-answer.answer-index c.answer-item.result c.loop-answer-test.true c.answer-item.is

pub loop-answer-preserved : goal.loop-answer-preserved
loop-answer-preserved c =
    fills_next c.args.schedule.now c.loop-answer.answer-index c.answer-item.result c.args.rows.now.items c.add_row.new.rows.items c.loop-answer-test.true c.answer-item.is
    (c.in_ok-add_row.ensures (take c.loop-answer.answer-index c.args.schedule.now) c.args.rows.now.items c.loop-answer.invariant)
