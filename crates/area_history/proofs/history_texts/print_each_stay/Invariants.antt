use Rattle.std.proofs.Common.{take, ◌≡◌}
use Rattle.std.specs.List.{flat_map}
use Rattle.std.specs.Io.KnownBytes.{Appends}
use Rattle.area_history.specs.HistoryTexts.{stay_line}
use Rattle.area_history.proofs.history_texts.print_each_stay.Given as goal

abbrev pub invariant-loop-leak : goal.invariant-loop-leak
invariant-loop-leak g l = record {
  so_far : Appends (g.W.Write.contents l.fn.writer.inner) (g.W.Write.contents l.writer.inner) (flat_map stay_line (take l.leak-index l.leaks));
  same : l.writer.failed ≡ l.fn.writer.failed;
}
