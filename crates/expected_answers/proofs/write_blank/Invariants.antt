use Rattle.std.proofs.Common.{◌≡◌, ◌++◌, List, ℕ, length}
use Rattle.std.specs.Io.KnownBytes.{Appends}
use Rattle.expected_answers.specs.Blank.{blank}
use Rattle.expected_answers.proofs.write_blank.Given as goal

abbrev pub invariant-lines : goal.invariant-lines
invariant-lines g l = record {
  so_far : (written : List ℕ) × Appends (g.W.Write.contents l.initial.writer.inner) (g.W.Write.contents l.writer.inner) written × (blank l.script ≡ written ++ blank l.rest);
  same : l.writer.failed ≡ l.initial.writer.failed;
}

abbrev pub decreases-lines : goal.decreases-lines
decreases-lines g l = length l.rest
