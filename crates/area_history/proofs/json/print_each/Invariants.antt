use Rattle.std.proofs.Common.{take, ◌≡◌}
use Rattle.std.specs.List.{flat_map}
use Rattle.std.specs.Io.KnownBytes.{Appends}
use Rattle.area_history.specs.JsonReports.{area_object}
use Rattle.area_history.proofs.json.print_each.Given as goal

abbrev pub invariant-loop-leak : goal.invariant-loop-leak
invariant-loop-leak g l = record {
  so_far : Appends (g.W.Write.contents l.fn.writer.inner) (g.W.Write.contents l.writer.inner) (flat_map (area_object l.head) (take l.leak-index l.leaks));
  same : l.writer.failed ≡ l.fn.writer.failed;
}
