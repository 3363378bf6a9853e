use Rattle.std.proofs.Common.{◌≡◌, codes, length}
use Rattle.mvs_model.specs.Lines.{lines_of}
use Rattle.expected_answers.specs.ExpectedAnswers.{last_or}
use Rattle.expected_answers.proofs.printed.last_line.Given as goal

abbrev pub invariant-lines : goal.invariant-lines
invariant-lines l = last_or l.last (lines_of l.rest) ≡ last_or (codes "nothing") (lines_of l.printed)

abbrev pub decreases-lines : goal.decreases-lines
decreases-lines l = length l.rest
