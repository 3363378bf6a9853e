use Rattle.std.proofs.Common.{◌≡◌, ◌+◌, length, decimal, length-append, ap, ◌∙◌, arith}
use Rattle.line_text.proofs.PrintedDigits.{short_decimal}
use Rattle.line_text.proofs.text.LineText.push_decimal.Goals as goal

pub push_digits-requires : goal.push_digits-requires
push_digits-requires c = omega (arith, short_decimal c.args.number c.ranges.number.fits)

pub returns-clause-len : goal.returns-clause-len
returns-clause-len c =
    let e : length c.push_digits.new.self ≡ length c.args.self.now + length (decimal c.args.number) = ap length c.push_digits.ensures ∙ length-append c.args.self.now _ in
    omega (arith, short_decimal c.args.number c.ranges.number.fits)
