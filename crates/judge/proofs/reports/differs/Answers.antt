use Rattle.std.proofs.Common.{sym, ◌∙◌}
use Rattle.judge.proofs.Digits.{goes_otherwise}
use Rattle.judge.proofs.reports.differs.Goals as goal

pub returns-else-text-at : goal.returns-else-text-at
returns-else-text-at c = λ _ rest is.
    goes_otherwise c.args.text.now c.args.front.now c.bytes.at c.bytes.done c.bytes-test.true c.if-done-front.true (sym c.is_digit.ensures ∙ c.if-is_digit.false) (sym c.is_digit-else-is_digit.ensures ∙ c.if-is_digit-2.false) c.bytes.invariant.same c.if-text-at.false rest is
