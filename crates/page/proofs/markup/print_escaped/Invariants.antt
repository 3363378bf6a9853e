use Rattle.std.proofs.Common.{◌≡◌, take}
use Rattle.std.specs.Io.KnownBytes.{Appends}
use Rattle.std.specs.List.{flat_map}
use Rattle.page.specs.Markup.{escaped_byte}
use Rattle.page.proofs.markup.print_escaped.Given as goal

abbrev pub invariant-loop-byte : goal.invariant-loop-byte
invariant-loop-byte g l = record {
  so_far : Appends (g.W.Write.contents l.initial.writer.inner) (g.W.Write.contents l.writer.inner) (flat_map escaped_byte (take l.byte-index l.text));
  same : l.writer.failed ≡ l.initial.writer.failed;
}
