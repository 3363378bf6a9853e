use Rattle.std.proofs.Common.{take, ◌≡◌}
use Rattle.std.specs.List.{flat_map}
use Rattle.std.specs.Io.KnownBytes.{Appends}
use Rattle.mvs_job.specs.Facts.{ended_pair, subpool_line}
use Rattle.mvs_job.proofs.ends.print_fates.Given as goal

abbrev pub invariant-loop-subpool : goal.invariant-loop-subpool
invariant-loop-subpool g l = record {
  so_far : Appends (g.W.Write.contents l.fn.writer.inner) (g.W.Write.contents l.writer.inner) (flat_map (subpool_line (ended_pair l.ended)) (take l.subpool-index l.subpools));
  same : l.writer.failed ≡ l.fn.writer.failed;
}
