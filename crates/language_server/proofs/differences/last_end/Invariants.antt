use Rattle.std.proofs.Common.{◌≡◌, length}
use Rattle.std.specs.Prelude.{filter}
use Rattle.mvs_model.specs.Lines.{lines_of}
use Rattle.expected_answers.specs.ExpectedAnswers.{ends_step, last_or}
use Rattle.language_server.proofs.differences.last_end.Given as goal

abbrev pub invariant-lines : goal.invariant-lines
invariant-lines l = last_or l.last (filter ends_step (lines_of l.rest)) ≡ last_or l.earlier (filter ends_step (lines_of l.others))

abbrev pub decreases-lines : goal.decreases-lines
decreases-lines l = length l.rest
