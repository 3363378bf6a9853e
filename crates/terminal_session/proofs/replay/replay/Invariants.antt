use Rattle.std.proofs.Common.{◌≡◌, take}
use Rattle.mvs_job.specs.Consuming.{HasRun}
use Rattle.terminal_session.proofs.replay.replay.Given as goal

abbrev pub invariant-loop-line : goal.invariant-loop-line
invariant-loop-line g l = record {
  run : HasRun g.C.Consumer.piece (g.C.Consumer.knows l.initial.consumer) (g.W.Write.contents l.initial.writer.inner) (g.W.Write.contents l.writer.inner) (take l.line-index l.lines) l.walk l.consumer;
  same : l.writer.failed ≡ l.initial.writer.failed;
}
