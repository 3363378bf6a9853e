use Rattle.std.proofs.Common.{◌≡◌, drop}
use Rattle.expected_answers.specs.ExpectedAnswers.{after_blanks}
use Rattle.expected_answers.proofs.lines.after_blanks.Given as goal

abbrev pub invariant-loop-i : goal.invariant-loop-i
invariant-loop-i l = after_blanks (drop l.i l.text) ≡ after_blanks l.text
