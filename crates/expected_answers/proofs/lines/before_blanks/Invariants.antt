use Rattle.std.proofs.Common.{◌≡◌, ◌≤◌, length, reverse, take}
use Rattle.expected_answers.specs.ExpectedAnswers.{after_blanks}
use Rattle.expected_answers.proofs.lines.before_blanks.Given as goal

abbrev pub invariant-blanks : goal.invariant-blanks
invariant-blanks l = record {
  within : l.end ≤ length l.text;
  same : after_blanks (reverse (take l.end l.text)) ≡ after_blanks (reverse l.text);
}

abbrev pub decreases-blanks : goal.decreases-blanks
decreases-blanks l = l.end
