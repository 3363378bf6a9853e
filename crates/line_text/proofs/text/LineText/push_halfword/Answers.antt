use Rattle.std.proofs.Common.{append_assoc}
use Rattle.line_text.proofs.PrintedDigits.{four_digits}
use Rattle.line_text.proofs.text.LineText.push_halfword.Goals as goal

pub returns-clause-text : goal.returns-clause-text
returns-clause-text c =
    rw (c.push_byte-2.ensures.text, c.push_byte.ensures.text, four_digits c.args.number c.ranges.number.fits) (append_assoc c.args.self.now _ _)
