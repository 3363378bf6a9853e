use Rattle.std.proofs.Common.{◌≡◌, ◌+◌, ◌≤◌, length}
use Rattle.mvs_model.specs.Lines.{lines_of}
use Rattle.expected_answers.specs.ExpectedAnswers.{expected_answers}
use Rattle.expected_answers.proofs.expected.AnswerPairs.next.Given as goal

abbrev pub invariant-lines : goal.invariant-lines
invariant-lines l = record {
  same : expected_answers l.self.number (lines_of l.self.script.now) (lines_of l.self.printed.now) ≡ expected_answers l.initial.self.number (lines_of l.initial.self.script.now) (lines_of l.initial.self.printed.now);
  room : l.self.number + length l.self.script.now ≤ l.initial.self.number + length l.initial.self.script.now;
  later : l.initial.self.number ≤ l.self.number;
}

abbrev pub decreases-lines : goal.decreases-lines
decreases-lines l = length l.self.script.now
