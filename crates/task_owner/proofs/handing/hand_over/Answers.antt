use Rattle.std.proofs.Common.{◌≡◌, Some, None, cond, refl, sym, ap, ◌∙◌}
use Rattle.slab.proofs.SlabLemmas.{Updates-with_value}
use Rattle.mvs_model.specs.Gifts.{gives, shares}
use Rattle.task_owner.specs.Seats.{item_at}
use Rattle.task_owner.specs.Handing.{left_over, taken}
use Rattle.task_owner.proofs.Gifts.{given_or_shared}
use Rattle.task_owner.proofs.Places.{none_everywhere}
use Rattle.task_owner.specs.declared.task_slot.TaskSlot.{TaskSlot}
use Rattle.task_owner.proofs.handing.hand_over.Goals as goal

pub returns-clause-taken : goal.returns-clause-taken
returns-clause-taken c = λ x h n l.
    let found : Some x ≡ Some c.in-Some.seat.now = sym h ∙ sym c.in-Some.ensures.value in
    let same : x ≡ c.in-Some.seat.now = cc in
    c.give.ensures.given n l
    ∙ ap (cond (gives c.args.gifts.now n) (item_at c.in-Some.seat.now.numbers n)) (c.share.ensures n l ∙ ap (cond (shares c.args.gifts.now n) (item_at c.in-Some.seat.now.numbers n)) (none_everywhere 133 None n refl))
    ∙ given_or_shared (gives c.args.gifts.now n) (shares c.args.gifts.now n) (item_at c.in-Some.seat.now.numbers n)
    ∙ ap (λ (y : TaskSlot). taken c.args.gifts.now y.numbers n) (sym same)

pub returns-clause-left : goal.returns-clause-left
returns-clause-left c = λ x h.
    let found : Some x ≡ Some c.in-Some.seat.now = sym h ∙ sym c.in-Some.ensures.value in
    let same : x ≡ c.in-Some.seat.now = cc in
    let now : TaskSlot = record { name = c.in-Some.seat.now.name; mother = c.in-Some.seat.now.mother; residence = c.in-Some.seat.now.residence; numbers = c.give.new.numbers } in (
      now,
      (Updates-with_value c.args.active.now c.args.mother now c.requires).changed,
      record {
        name = ap (λ (y : TaskSlot). y.name) (sym same);
        mother = ap (λ (y : TaskSlot). y.mother) (sym same);
        residence = ap (λ (y : TaskSlot). y.residence) (sym same);
        numbers = λ n l. c.give.ensures.left n l ∙ ap (λ (y : TaskSlot). left_over c.args.gifts.now y.numbers n) (sym same);
      },
    )
