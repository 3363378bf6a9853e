use Rattle.std.proofs.Common.{◌&&◌, sym, ap, ◌∙◌, refl, arith}
use Rattle.mvs_model.specs.Gifts.{gives}
use Rattle.task_owner.specs.Tasks.{name_of}
use Rattle.task_owner.specs.Handing.{is_shared_gift}
use Rattle.task_owner.proofs.tasks.Tasks.shared_gift.Goals as goal
use Rattle.task_owner.proofs.AnyBelow.{none_below, none_more, none_to, found_below}
use Rattle.task_owner.proofs.Refusing.{shared_gift, not_given}

pub given-init : goal.given-init
given-init c = record { within = omega arith; none = none_below (is_shared_gift c.args.self.now.owners (name_of c.args.self.now c.args.mother) c.args.gifts.now) }

pub returns-then-is_shared-clause-given : goal.returns-then-is_shared-clause-given
returns-then-is_shared-clause-given c =
    let e = c.in-Some.ensures in
    sym (found_below (is_shared_gift c.args.self.now.owners (name_of c.args.self.now c.args.mother) c.args.gifts.now) c.in-Some.number 128 e.1
    (sym (shared_gift c.args.self.now.owners (name_of c.args.self.now c.args.mother) c.args.gifts.now c.in-Some.number _ _ _ refl c.of-shared.ensures c.is_shared.ensures) ∙ (λ i. e.2 i && c.if-is_shared.true i)))

pub returns-then-is_shared-clause-gift : goal.returns-then-is_shared-clause-gift
returns-then-is_shared-clause-gift c = (ap (gives c.args.gifts.now) c.of-shared.ensures ∙ c.in-Some.ensures.2, sym c.is_shared.ensures ∙ c.if-is_shared.true)

pub given-preserved : goal.given-preserved
given-preserved c =
    let e = c.in-Some.ensures in
    let test = is_shared_gift c.args.self.now.owners (name_of c.args.self.now c.args.mother) c.args.gifts.now in record {
      within = omega (arith, e.1);
      none = none_more test c.in-Some.number
          (none_to test c.given.from c.in-Some.number e.0 c.given.invariant.none (λ i low high. not_given c.args.self.now.owners (name_of c.args.self.now c.args.mother) c.args.gifts.now i (e.3 i low high)))
          (sym (shared_gift c.args.self.now.owners (name_of c.args.self.now c.args.mother) c.args.gifts.now c.in-Some.number _ _ _ refl c.of-shared.ensures c.is_shared.ensures) ∙ (λ i. e.2 i && c.if-is_shared.false i));
    }

pub returns-clause-given : goal.returns-clause-given
returns-clause-given c =
    sym (none_to (is_shared_gift c.args.self.now.owners (name_of c.args.self.now c.args.mother) c.args.gifts.now) c.given.from 128 c.given.invariant.within c.given.invariant.none
    (λ i low high. not_given c.args.self.now.owners (name_of c.args.self.now c.args.mother) c.args.gifts.now i (c.in_default.ensures i low)))
