use Rattle.std.proofs.Common.{◌≡◌, ◌+◌, ◌≤◌, ◌++◌, length}
use Rattle.mvs_model.specs.Lines.{lines_of}
use Rattle.language_server.specs.LineOutputs.{line_outputs}
use Rattle.language_server.proofs.line_outputs.line_outputs.Given as goal

abbrev pub invariant-lines : goal.invariant-lines
invariant-lines l = record {
  outputs : l.found.items ++ line_outputs l.number (lines_of l.rest) (lines_of l.printed) ≡ line_outputs 1 (lines_of l.script) (lines_of l.fn.printed);
  room : l.number + length l.rest ≤ length l.script + 1;
}

abbrev pub decreases-lines : goal.decreases-lines
decreases-lines l = length l.rest
