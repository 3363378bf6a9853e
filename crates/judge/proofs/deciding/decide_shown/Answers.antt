use Rattle.std.proofs.Common.{refl, take}
use Rattle.judge.proofs.Asked.{open_area}
use Rattle.judge.proofs.Decided.{area_asked}
use Rattle.judge.proofs.deciding.decide_shown.Goals as goal

pub returns-in_default-clause-decided : goal.returns-in_default-clause-decided
returns-in_default-clause-decided c = λ line reading grant.
    (refl, open_area c.args.walk.now.number c.args.walk.now.step line _ c.args.left.now c.args.asked.now.task c.args.asked.now.area c.args.asked.now.variable grant c.in_default.ensures)

pub returns-clause-decided : goal.returns-clause-decided
returns-clause-decided c = λ line reading grant.
    let q = take c.in-Some.end c.args.rest.now in
    let e = c.in_ok-served.ensures in
    (c.in-Some.ensures.1, e.served line reading grant, e.decided line reading grant, λ more. area_asked c.args.walk.now.step line q c.args.asked.now.task c.args.asked.now.area c.args.asked.now.variable more grant c.in-Some.ensures.2)
