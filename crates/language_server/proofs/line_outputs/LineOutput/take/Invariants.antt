use Rattle.std.proofs.Common.{◌≡◌, ◌++◌, length}
use Rattle.mvs_model.specs.Lines.{lines_of}
use Rattle.expected_answers.specs.ExpectedAnswers.{joined}
use Rattle.language_server.specs.LineOutputs.{after_own, others_of, own, texts_of}
use Rattle.language_server.proofs.line_outputs.LineOutput.take.Given as goal

abbrev pub invariant-own : goal.invariant-own
invariant-own l = record {
  answer : joined l.self.answer (texts_of l.number l.task (own l.number (lines_of l.rest))) ≡ joined l.initial.self.answer (texts_of l.number l.task (own l.number (lines_of l.printed)));
  others : l.self.others ++ others_of l.number l.task (own l.number (lines_of l.rest)) ≡ l.initial.self.others ++ others_of l.number l.task (own l.number (lines_of l.printed));
  after : after_own l.number (lines_of l.rest) ≡ after_own l.number (lines_of l.printed);
}

abbrev pub decreases-own : goal.decreases-own
decreases-own l = length l.rest
