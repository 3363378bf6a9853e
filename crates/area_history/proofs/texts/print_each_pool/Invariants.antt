use Rattle.std.proofs.Common.{take, ◌≡◌}
use Rattle.std.specs.List.{flat_map}
use Rattle.std.specs.Io.KnownBytes.{Appends}
use Rattle.area_history.specs.LeakTexts.{pool_line}
use Rattle.area_history.proofs.texts.print_each_pool.Given as goal

abbrev pub invariant-loop-pool : goal.invariant-loop-pool
invariant-loop-pool g l = record {
  so_far : Appends (g.W.Write.contents l.fn.writer.inner) (g.W.Write.contents l.writer.inner) (flat_map pool_line (take l.pool-index l.pools));
  same : l.writer.failed ≡ l.fn.writer.failed;
}
