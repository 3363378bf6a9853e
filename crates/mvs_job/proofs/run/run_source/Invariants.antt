use Rattle.std.proofs.Common.{◌≡◌, ◌<◌, ◌≤◌, ◌+◌, ◌-◌, ℕ, List, Option, length}
use Rattle.mvs_job.specs.Streams.{IsUnderWay}
use Rattle.mvs_job.proofs.run.run_source.Given as goal

abbrev pub invariant-reading : goal.invariant-reading
invariant-reading g l = record {
  under_way : IsUnderWay g.C.Consumer.piece (g.C.Consumer.knows l.initial.consumer) (g.S.Source.left l.initial.reader) (g.S.Source.left l.reader) (g.W.Write.contents l.initial.writer.inner) (g.W.Write.contents l.writer.inner) l.count l.stream.walk l.stream.line l.consumer;
  room : length l.stream.line < 256;
  number : l.stream.walk.number ≤ l.count + 1;
  small : l.count ≤ 16777215;
  reader : g.S.Source.failed l.reader ≡ g.S.Source.failed l.initial.reader;
  since : (start : Option (List ℕ)) → g.S.Source.since start l.initial.reader → g.S.Source.since start l.reader;
  writer : l.writer.failed ≡ l.initial.writer.failed;
}

abbrev pub decreases-reading : goal.decreases-reading
decreases-reading g l = 16777215 - l.count
