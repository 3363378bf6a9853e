use Rattle.std.proofs.Common.{◌≡◌, ◌++◌, ◌+◌, ◌≤◌, length}
use Rattle.mvs_model.specs.Lines.{lines_of}
use Rattle.language_server.specs.Names.{names_from, placed}
use Rattle.language_server.proofs.names.names_of.Given as goal

abbrev pub invariant-lines : goal.invariant-lines
invariant-lines l = record {
  names : l.found.items ++ names_from l.number l.step (placed l.place (lines_of l.rest)) ≡ names_from 0 0 (placed 0 (lines_of l.text));
  room : l.place + length l.rest ≤ 1048576;
  steps : l.step ≤ l.place;
  numbers : l.number ≤ l.place;
}

abbrev pub decreases-lines : goal.decreases-lines
decreases-lines l = length l.rest
