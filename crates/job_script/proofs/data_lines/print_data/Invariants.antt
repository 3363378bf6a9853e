use Rattle.std.proofs.Common.{◌≡◌, ℕ, ◌+◌, ◌/◌, ◌<◌, ◌≤◌, ◌++◌, List, length, codes, decimal}
use Rattle.std.specs.Io.KnownBytes.{Appends}
use Rattle.mvs_model.specs.Name.{trimmed}
use Rattle.mvs_model.specs.Texts.{data_lines}
use Rattle.job_script.proofs.data_lines.print_data.Given as goal

abbrev pub invariant-lines : goal.invariant-lines
invariant-lines g l = record {
  so_far : (front : List ℕ) × Appends (g.W.Write.contents l.initial.writer.inner) (g.W.Write.contents l.writer.inner) front
      × (front ++ data_lines l.line_number l.task ((length l.rest + 31) / 32) l.offset l.rest ≡ data_lines l.line_number l.task ((length l.bytes + 31) / 32) 0 l.bytes);
  short : 0 < length l.rest → l.offset + length l.rest ≤ 4096;
  head : l.text ≡ decimal l.line_number ++ codes " " ++ trimmed l.task ++ codes " ";
  room : length l.text ≤ 20;
  same : l.writer.failed ≡ l.initial.writer.failed;
}

abbrev pub decreases-lines : goal.decreases-lines
decreases-lines g l = length l.rest
