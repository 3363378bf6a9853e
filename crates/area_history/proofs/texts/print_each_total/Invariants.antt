use Rattle.std.proofs.Common.{take, ◌≡◌}
use Rattle.std.specs.List.{flat_map}
use Rattle.std.specs.Io.KnownBytes.{Appends}
use Rattle.area_history.specs.LeakTexts.{total_line}
use Rattle.area_history.proofs.texts.print_each_total.Given as goal

abbrev pub invariant-loop-total : goal.invariant-loop-total
invariant-loop-total g l = record {
  so_far : Appends (g.W.Write.contents l.fn.writer.inner) (g.W.Write.contents l.writer.inner) (flat_map total_line (take l.total-index l.totals));
  same : l.writer.failed ≡ l.fn.writer.failed;
}
