use Rattle.std.proofs.Common.{◌≡◌, ◌+◌, ◌≤◌, length}
use Rattle.std.specs.Prelude.{count_by, nat_lt}
use Rattle.job_script.specs.Parted.{field_in}
use Rattle.mvs_model.specs.Reading.{parts_within}
use Rattle.language_server.specs.Names.{placed}
use Rattle.language_server.specs.Proposals.{operands_before}
use Rattle.language_server.proofs.completion.operands_before.Given as goal

abbrev pub invariant-operands : goal.invariant-operands
invariant-operands l = record {
  counted : l.count + count_by (λ p. nat_lt (p.at + length p.bytes) l.column) (placed l.place (parts_within 0 (field_in l.rest))) ≡ operands_before l.field l.column;
  few : l.count ≤ l.place;
  room : l.place + length l.rest ≤ 1048576;
}

abbrev pub decreases-operands : goal.decreases-operands
decreases-operands l = length l.rest
