use Rattle.std.proofs.Common.{◌≡◌, ◌+◌, ◌≤◌, length}
use Rattle.std.specs.Prelude.{find}
use Rattle.job_script.specs.Parted.{field_in}
use Rattle.mvs_model.specs.Reading.{parts_within}
use Rattle.language_server.specs.Names.{placed}
use Rattle.language_server.specs.Spans.{touches}
use Rattle.language_server.specs.Subjects.{operand_at, piece_span}
use Rattle.language_server.proofs.subject.operand_at.Given as goal

abbrev pub invariant-operands : goal.invariant-operands
invariant-operands l = record {
  found : find (λ p. touches (piece_span p) l.column) (placed l.place (parts_within 0 (field_in l.rest))) ≡ operand_at l.field l.column;
  room : l.place + length l.rest ≤ 1048576;
}

abbrev pub decreases-operands : goal.decreases-operands
decreases-operands l = length l.rest
