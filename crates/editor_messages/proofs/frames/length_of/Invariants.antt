use Rattle.std.proofs.Common.{◌≡◌, length}
use Rattle.mvs_model.specs.Lines.{lines_of}
use Rattle.editor_messages.specs.Frames.{length_of}
use Rattle.editor_messages.proofs.frames.length_of.Given as goal

abbrev pub invariant-lines : goal.invariant-lines
invariant-lines l = length_of (lines_of l.rest) ≡ length_of (lines_of l.header)

abbrev pub decreases-lines : goal.decreases-lines
decreases-lines l = length l.rest
