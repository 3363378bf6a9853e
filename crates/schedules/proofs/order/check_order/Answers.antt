use Rattle.std.proofs.Common.{◌≡◌, ◌∷◌, ◌∙◌, ap, arith, length}
use Rattle.std.proofs.lemmas.List.FromFn.{length-range_with_len}
use Rattle.std.proofs.lemmas.Result.{IfErr-weaker}
use Rattle.schedules.specs.Refusals.{IsRefusal, IsStepRefusal}
use Rattle.schedules.proofs.Refused.{step_refusal}
use Rattle.schedules.proofs.order.check_order.Goals as goal

pub follow-requires : goal.follow-requires
follow-requires c =
    let count : length c.in_ok-left.left.items ≡ length c.args.own.now = ap length c.in_ok-left.ensures ∙ length-range_with_len 0 (length c.args.own.now) in
    let number = c.in_ok-walk.ensures.number in
    let room = c.requires in
    omega (arith, count, number, room)

pub returns-clause-refused : goal.returns-clause-refused
returns-clause-refused c =
    let own = c.args.own.now in
    let region = c.args.region.now in
    let order = c.args.order.now in
    let start = c.in_ok-walk.walk in
    IfErr-weaker c.follow.result (IsRefusal own start order) (IsStepRefusal region own (region.number ∷ order)) (step_refusal region own order c.in_ok-walk.ensures.begins.0 start c.in_ok-walk.ensures.begins.1) (c.follow.ensures.refused c.in_ok-left.ensures)
