use Rattle.std.proofs.Common.{◌≡◌, Some, length, rules, sym, ap, ◌∙◌, refl}
use Rattle.std.specs.Prelude.{nat_eq}
use Rattle.std.specs.Option.{option_eq}
use Rattle.task_owner.proofs.Collecting.{number_read, option_eq_other, option_eq_same}
use Rattle.task_owner.proofs.Found.{unseen_all, unseen_first, unseen_rest}
use Rattle.task_owner.proofs.freed.is_held.Goals as goal

pub loop-seat-init : goal.loop-seat-init
loop-seat-init c = unseen_all _ _ _ (c.into_iter-seat-iterator.ensures.into_iter_gives ∙ c.iter-seat-items.ensures.rest)

pub returns-then-eq : goal.returns-then-eq
returns-then-eq c =
    let long : length c.in-Some.seat.now.numbers ≡ 133 = search rules in
    let read = number_read c.in-Some.seat.now c.args.number c.index-seat-number.result c.index-seat-number.is c.requires long in
    (λ _. (c.in-Some.field-0-0, c.in-Some.seat.now, unseen_first _ _ _ _ _ _ c.in-Some.ensures.steps c.loop-seat.invariant, read ∙ option_eq_same c.index-seat-number.result c.args.subpool (ap (λ o. option_eq nat_eq o (Some c.args.subpool)) c.index-seat-number.is ∙ sym c.eq.ensures ∙ c.if-eq.true)), λ _. refl)

pub loop-seat-preserved : goal.loop-seat-preserved
loop-seat-preserved c =
    let long : length c.in-Some.seat.now.numbers ≡ 133 = search rules in
    let read = number_read c.in-Some.seat.now c.args.number c.index-seat-number.result c.index-seat-number.is c.requires long in
    unseen_rest _ _ _ _ _ _ c.in-Some.ensures.steps c.loop-seat.invariant (λ e. option_eq_other c.index-seat-number.result c.args.subpool (ap (λ o. option_eq nat_eq o (Some c.args.subpool)) c.index-seat-number.is ∙ sym c.eq.ensures ∙ c.if-eq.false) (sym read ∙ e))
