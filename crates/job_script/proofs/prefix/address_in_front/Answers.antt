use Rattle.job_script.proofs.Fronts.{address_alone, address_with}
use Rattle.job_script.proofs.prefix.address_in_front.Goals as goal

pub returns-in_default : goal.returns-in_default
returns-in_default c = address_alone c.args.text.now c.in_ok-area.area.now c.in_ok-area.rest.now c.in_ok-area.ensures

pub returns : goal.returns
returns c =
    let area = c.in_ok-area in
    let offset = c.in_ok-offset in
    address_with c.args.text.now area.area.now area.rest.now c.in-Some.digits.now offset.ensures.0 offset.rest.now offset.offset area.ensures c.in-Some.ensures offset.ensures.1
