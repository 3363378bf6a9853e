use Rattle.std.proofs.Common.{◌/◌, ◌++◌, length, decimal, length-append, append_assoc, ap, sym, ◌∙◌, arith}
use Rattle.line_text.proofs.PrintedDigits.{just_one, just_two, just_three, three_digits, three_longer}
use Rattle.line_text.proofs.text.LineText.+push_digits.Goals as goal

pub push_digits-requires : goal.push_digits-requires
push_digits-requires t c = (omega (arith, c.decreases), omega (arith, three_longer c.args.number c.if-number-ge1000.true c.ranges.number.fits))

pub push_three-requires : goal.push_three-requires
push_three-requires t c =
    let long = ap length c.push_digits.ensures ∙ length-append c.args.self.now (decimal (c.args.number / 1000)) in
    omega (arith, long, three_longer c.args.number c.if-number-ge1000.true c.ranges.number.fits)

pub push_three-requires-then-number-ge100 : goal.push_three-requires-then-number-ge100
push_three-requires-then-number-ge100 t c = omega (arith, ap length (just_three c.args.number c.if-number-ge100.true c.if-number-ge1000.false))

pub push_two-requires : goal.push_two-requires
push_two-requires t c = omega (arith, ap length (just_two c.args.number c.if-number-ge10.true c.if-number-ge100.false))

pub push-requires : goal.push-requires
push-requires t c = omega (arith, ap length (just_one c.args.number c.if-number-ge10.false))

pub returns-then-number-ge1000 : goal.returns-then-number-ge1000
returns-then-number-ge1000 t c =
    rw (c.push_three.ensures, c.push_digits.ensures, three_digits c.args.number c.if-number-ge1000.true c.ranges.number.fits) (append_assoc c.args.self.now _ _)

pub returns-then-number-ge100 : goal.returns-then-number-ge100
returns-then-number-ge100 t c = c.push_three-then-number-ge100.ensures ∙ ap (λ digits. c.args.self.now ++ digits) (sym (just_three c.args.number c.if-number-ge100.true c.if-number-ge1000.false))

pub returns-then-number-ge10 : goal.returns-then-number-ge10
returns-then-number-ge10 t c = c.push_two.ensures ∙ ap (λ digits. c.args.self.now ++ digits) (sym (just_two c.args.number c.if-number-ge10.true c.if-number-ge100.false))

pub returns-else-number-ge10 : goal.returns-else-number-ge10
returns-else-number-ge10 t c =
    rw (c.push.ensures.text, c.last_digit.ensures) (ap (λ digits. c.args.self.now ++ digits) (sym (just_one c.args.number c.if-number-ge10.false)))
