use Rattle.std.proofs.Common.{◌≡◌, ◌++◌, ◌+◌, ◌≤◌, length}
use Rattle.std.specs.Prelude.{flat_map}
use Rattle.job_script.specs.Parted.{field_in}
use Rattle.mvs_model.specs.Reading.{parts_within}
use Rattle.language_server.specs.Names.{operand_names, placed}
use Rattle.language_server.proofs.names.Statement.add_field.Given as goal

abbrev pub invariant-operands : goal.invariant-operands
invariant-operands l = record {
  names : l.found.items ++ flat_map (operand_names l.self) (placed l.place (parts_within 0 (field_in l.rest))) ≡ l.initial.found.items ++ flat_map (operand_names l.self) (placed l.field.at (parts_within 0 (field_in l.field.bytes)));
  room : l.place + length l.rest ≤ 1048576;
}

abbrev pub decreases-operands : goal.decreases-operands
decreases-operands l = length l.rest
