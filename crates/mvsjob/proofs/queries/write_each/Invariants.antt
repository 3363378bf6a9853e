use Rattle.std.proofs.Common.{take, ◌≡◌}
use Rattle.std.specs.List.{flat_map}
use Rattle.std.specs.Io.KnownBytes.{Appends}
use Rattle.mvsjob.specs.Queries.{question}
use Rattle.mvsjob.proofs.queries.write_each.Given as goal

abbrev pub invariant-loop-name : goal.invariant-loop-name
invariant-loop-name g l = record {
  so_far : Appends (g.W.Write.contents l.fn.writer.inner) (g.W.Write.contents l.writer.inner) (flat_map (question l.task) (take l.name-index l.names));
  same : l.writer.failed ≡ l.fn.writer.failed;
}
