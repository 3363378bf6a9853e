use Rattle.std.proofs.Common.{length, ◌≡◌}
use Rattle.mvsjob.proofs.Asked.{SoFar}
use Rattle.mvsjob.proofs.queries.write_with_queries.Given as goal

abbrev pub invariant-lines : goal.invariant-lines
invariant-lines g l = record {
  so_far : SoFar (g.W.Write.contents l.initial.writer.inner) (g.W.Write.contents l.writer.inner) l.script l.is_first l.rest;
  same : l.writer.failed ≡ l.initial.writer.failed;
}

abbrev pub decreases-lines : goal.decreases-lines
decreases-lines g l = length l.rest
