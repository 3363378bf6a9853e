use Rattle.std.proofs.Common.{◌≡◌, ◌++◌, length, map}
use Rattle.mvs_model.specs.Lines.{ended_text, lines_of}
use Rattle.expected_answers.specs.ExpectedAnswers.{statement_of}
use Rattle.expected_answers.proofs.statements.Given as goal

abbrev pub invariant-lines : goal.invariant-lines
invariant-lines l = l.run.items ++ ended_text (map statement_of (lines_of l.rest)) ≡ ended_text (map statement_of (lines_of l.script))

abbrev pub decreases-lines : goal.decreases-lines
decreases-lines l = length l.rest
