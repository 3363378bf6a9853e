use Rattle.std.proofs.Common.{◌≡◌, ◌++◌, ◌+◌, ◌≤◌, length}
use Rattle.std.specs.Prelude.{flat_map}
use Rattle.std.specs.List.{slice_split}
use Rattle.language_server.specs.Names.{ends_name, name_in, placed}
use Rattle.language_server.proofs.names.add_value.Given as goal

abbrev pub invariant-pieces : goal.invariant-pieces
invariant-pieces l = record {
  names : l.found.items ++ flat_map (name_in l.role) (placed l.place (slice_split ends_name l.rest)) ≡ l.initial.found.items ++ flat_map (name_in l.role) (placed l.at (slice_split ends_name l.value));
  room : l.place + length l.rest ≤ 1048576;
}

abbrev pub decreases-pieces : goal.decreases-pieces
decreases-pieces l = length l.rest
