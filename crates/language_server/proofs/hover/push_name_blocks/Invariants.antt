use Rattle.std.proofs.Common.{◌≡◌, ◌++◌, length}
use Rattle.mvs_model.specs.Lines.{lines_of}
use Rattle.language_server.specs.Hovers.{name_blocks}
use Rattle.language_server.proofs.hover.push_name_blocks.Given as goal

abbrev pub invariant-lines : goal.invariant-lines
invariant-lines l = l.found.items ++ name_blocks l.name (lines_of l.rest) ≡ l.initial.found.items ++ name_blocks l.name (lines_of l.others)

abbrev pub decreases-lines : goal.decreases-lines
decreases-lines l = length l.rest
