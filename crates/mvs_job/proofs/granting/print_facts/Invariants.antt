use Rattle.std.proofs.Common.{take, ◌≡◌}
use Rattle.std.specs.List.{flat_map}
use Rattle.std.specs.Io.KnownBytes.{Appends}
use Rattle.explanation.specs.FactTexts.{fact_line}
use Rattle.mvs_job.proofs.granting.print_facts.Given as goal

abbrev pub invariant-loop-fact : goal.invariant-loop-fact
invariant-loop-fact g l = record {
  so_far : Appends (g.W.Write.contents l.fn.writer.inner) (g.W.Write.contents l.writer.inner) (flat_map fact_line (take l.fact-index l.facts));
  same : l.writer.failed ≡ l.fn.writer.failed;
}
