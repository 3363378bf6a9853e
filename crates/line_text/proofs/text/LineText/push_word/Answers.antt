use Rattle.std.proofs.Common.{append_assoc}
use Rattle.line_text.proofs.PrintedDigits.{eight_digits}
use Rattle.line_text.proofs.text.LineText.push_word.Goals as goal

pub returns-clause-text : goal.returns-clause-text
returns-clause-text c =
    rw (c.push_halfword-2.ensures.text, c.push_halfword.ensures.text, eight_digits c.args.number c.ranges.number.fits) (append_assoc c.args.self.now _ _)
