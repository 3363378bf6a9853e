use Rattle.job_script.proofs.Fronts.{subpool_said}
use Rattle.job_script.proofs.plain.subpool_in_front.Goals as goal

pub returns : goal.returns
returns c =
    let found = c.in_ok-number.ensures in
    subpool_said c.args.text.now c.in-Some.digits.now found.0 c.in_ok-number.rest.now c.in_ok-number.number c.in-Some.ensures found.1
