use Rattle.std.proofs.Common.{◌∙◌}
use Rattle.std.proofs.lemmas.Result.{err_from_is_err_and}
use Rattle.terminal_session.proofs.Playing.{replay_faulty, replay_next, replay_stopped}
use Rattle.terminal_session.proofs.replay.replay.Goals as goal

pub loop-line-preserved : goal.loop-line-preserved
loop-line-preserved g c = record {
  run =
      replay_next g.C.Consumer.piece (g.C.Consumer.knows c.args.consumer.now) _ _ _ c.args.lines.now c.loop-line.line-index c.line-item.result c.bytes.result.now c.line-item.is c.loop-line-test.true c.bytes.ensures c.requires.each c.loop-line.walk c.loop-line.consumer c.loop-line.invariant.run c.run_entry.new.walk
      c.run_entry.new.consumer c.in_ok-continues.ensures.number _ c.if-not-continues.false (c.in_ok-continues.ensures.ran c.args.consumer.now);
  same = c.in_ok-continues.ensures.ok ∙ c.loop-line.invariant.same;
}

pub returns-then-not-continues-clause-ran : goal.returns-then-not-continues-clause-ran
returns-then-not-continues-clause-ran g c =
    replay_faulty g.C.Consumer.piece (g.C.Consumer.knows c.args.consumer.now) _ _ _ c.args.lines.now c.loop-line.line-index c.line-item.result c.bytes.result.now c.line-item.is c.loop-line-test.true c.bytes.ensures c.requires.each c.loop-line.walk c.loop-line.consumer c.loop-line.invariant.run c.run_entry.new.walk
    c.run_entry.new.consumer _ c.if-not-continues.true (c.in_ok-continues.ensures.ran c.args.consumer.now)

pub returns-in_err-continues-clause-ran : goal.returns-in_err-continues-clause-ran
returns-in_err-continues-clause-ran g c =
    let p = err_from_is_err_and c.from_residual.result c.from_residual.ensures.1 in
    rw (p.1, p.2) (replay_stopped g.C.Consumer.piece (g.C.Consumer.knows c.args.consumer.now) _ _ _ c.args.lines.now c.loop-line.line-index c.line-item.result c.bytes.result.now c.line-item.is c.loop-line-test.true c.bytes.ensures c.requires.each c.loop-line.walk c.loop-line.consumer c.loop-line.invariant.run c.run_entry.new.walk
    c.run_entry.new.consumer _ (c.in_err-continues.ensures.ran c.args.consumer.now))
