use Rattle.std.proofs.Common.{◌≡◌, ◌+◌, ◌≤◌, length}
use Rattle.std.specs.List.{list_any}
use Rattle.job_script.specs.Parted.{field_in}
use Rattle.mvs_model.specs.Reading.{parts_within}
use Rattle.language_server.specs.Names.{placed}
use Rattle.language_server.specs.Proposals.{is_given, is_same_key}
use Rattle.language_server.proofs.proposals.is_given.Given as goal

abbrev pub invariant-operands : goal.invariant-operands
invariant-operands l = record {
  given : list_any (is_same_key l.column l.key) (placed l.place (parts_within 0 (field_in l.rest))) ≡ is_given l.field l.column l.key;
  room : l.place + length l.rest ≤ 1048576;
}

abbrev pub decreases-operands : goal.decreases-operands
decreases-operands l = length l.rest
