use Rattle.std.proofs.Common.{ap, arith, drop, sym, take, ◌∙◌, ◌≡◌, ◌+◌, ◌-◌}
use Rattle.std.specs.List.{list_all}
use Rattle.mvs_model.proofs.Tests.{false_true}
use Rattle.mvs_model.specs.Reading.{hex_number, is_hex_digit}
use Rattle.judge.proofs.Decided.{read_back}
use Rattle.judge.proofs.deciding.address_after.Goals as goal
use Rattle.judge.proofs.deciding.address_after.Goals.{then-text-lt8-via-then-text-lt8, then-text-lt8-via-else-text-lt8+then-text-front}

pub returns-then-text-lt8 : goal.returns-then-text-lt8
returns-then-text-lt8 c = λ addr rest small e.
    let r = read_back c.args.text.now c.args.front addr rest small e in
    absurd (elim c.then-text-lt8.branch [ then-text-lt8-via-then-text-lt8 w ↦ omega (arith, r.long, w.if-text-lt8.true) | then-text-lt8-via-else-text-lt8+then-text-front w ↦ omega (arith, r.long, w.if-text-lt8.false, w.if-text-front.true) ])

pub returns-then-not-are_hex_digits : goal.returns-then-not-are_hex_digits
returns-then-not-are_hex_digits c = λ addr rest small e.
    let r = read_back c.args.text.now c.args.front addr rest small e in
    let eight : c.args.front + 8 - c.args.front ≡ 8 = omega arith in
    absurd (false_true (sym c.if-not-are_hex_digits.true ∙ c.are_hex_digits.ensures ∙ ap (λ n. list_all is_hex_digit (take n (drop c.args.front c.args.text.now))) eight ∙ r.are_digits))

pub returns-then-number-ge2147483648 : goal.returns-then-number-ge2147483648
returns-then-number-ge2147483648 c = λ addr rest small e.
    let r = read_back c.args.text.now c.args.front addr rest small e in
    let eight : c.args.front + 8 - c.args.front ≡ 8 = omega arith in
    let is : c.hex_number-number.result ≡ addr = c.hex_number-number.ensures.value ∙ ap (λ n. hex_number (take n (drop c.args.front c.args.text.now))) eight ∙ r.number in
    absurd (omega (arith, is, small, c.if-number-ge2147483648.true))

pub returns : goal.returns
returns c = λ addr rest small e.
    let r = read_back c.args.text.now c.args.front addr rest small e in
    let eight : c.args.front + 8 - c.args.front ≡ 8 = omega arith in
    c.new.ensures ∙ c.hex_number-number.ensures.value ∙ ap (λ n. hex_number (take n (drop c.args.front c.args.text.now))) eight ∙ r.number
