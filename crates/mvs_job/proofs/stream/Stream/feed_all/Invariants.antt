use Rattle.std.proofs.Common.{◌≡◌, ℕ, ◌<◌, ◌≤◌, ◌+◌, ◌-◌, ◌++◌, List, Option, length, take}
use Rattle.mvs_job.specs.Streams.{HasConsumed}
use Rattle.mvs_job.proofs.stream.Stream.feed_all.Given as goal

abbrev pub invariant-loop-at : goal.invariant-loop-at
invariant-loop-at g l = record {
  stands : (first : _) (start : Option (List ℕ)) (consumed : List ℕ) → HasConsumed g.C.Consumer.piece (g.C.Consumer.knows first) start (g.W.Write.contents l.initial.writer.inner) consumed l.initial.self.walk l.initial.self.line l.initial.consumer
      → HasConsumed g.C.Consumer.piece (g.C.Consumer.knows first) start (g.W.Write.contents l.writer.inner) (consumed ++ take l.at l.bytes) l.self.walk l.self.line l.consumer;
  within : l.at ≤ length l.bytes;
  room : length l.self.line < 256;
  number : l.self.walk.number ≤ l.initial.self.walk.number + l.at;
  same : l.writer.failed ≡ l.initial.writer.failed;
}

abbrev pub decreases-loop-at : goal.decreases-loop-at
decreases-loop-at g l = length l.bytes - l.at
