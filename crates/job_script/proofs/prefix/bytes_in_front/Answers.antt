use Rattle.std.proofs.Common.{◌≡◌, ◌<◌, ◌==◌, ap, arith, length, true}
use Rattle.std.specs.Prelude.{◌%◌}
use Rattle.job_script.proofs.Fronts.{bytes_front}
use Rattle.job_script.proofs.prefix.bytes_in_front.Goals as goal

pub returns : goal.returns
returns c =
    let n = c.hex_end-end.result in
    let even : (n % 2 == 0) ≡ true = ap (λ k. k == 0) c.if-end-ne0.false in
    let within : n < length c.in_ok-digits.digits.now = omega (arith, c.hex_end-end.ensures.within, c.if-end-digits.false) in
    bytes_front c.args.text.now c.in_ok-digits.digits.now n c.in_ok-digits.ensures c.hex_end-end.ensures.digits c.if-end-eq0.false c.if-end-gt200.false even within c.if-digits-end-ne39.false
