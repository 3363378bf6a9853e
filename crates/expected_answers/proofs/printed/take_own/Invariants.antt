use Rattle.std.proofs.Common.{◌≡◌, length}
use Rattle.mvs_model.specs.Lines.{lines_of}
use Rattle.expected_answers.specs.ExpectedAnswers.{after_own, joined, own_texts}
use Rattle.expected_answers.proofs.printed.take_own.Given as goal

abbrev pub invariant-own : goal.invariant-own
invariant-own l = record {
  texts : joined l.texts.items (own_texts l.number l.task (lines_of l.rest)) ≡ joined l.initial.texts.items (own_texts l.number l.task (lines_of l.printed));
  after : after_own l.number (lines_of l.rest) ≡ after_own l.number (lines_of l.printed);
}

abbrev pub decreases-own : goal.decreases-own
decreases-own l = length l.rest
