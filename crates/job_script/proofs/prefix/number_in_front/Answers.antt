use Rattle.std.proofs.Common.{◌≤◌, arith}
use Rattle.job_script.proofs.Fronts.{number_front}
use Rattle.job_script.proofs.prefix.number_in_front.Goals as goal

pub returns : goal.returns
returns c =
    let found = c.digits_in_front-end.ensures in
    let low : c.args.least ≤ c.digits_in_front-end.result.1 = omega (arith, c.if-value-from.false, c.from.ensures) in
    let high : c.digits_in_front-end.result.1 ≤ c.args.most = omega (arith, c.if-from-value.false, c.from-else-value-from.ensures) in
    number_front c.args.least c.args.most c.args.text.now c.digits_in_front-end.result.0 c.digits_in_front-end.result.1 found.digits found.value found.few found.within c.if-end-eq0.false low high
