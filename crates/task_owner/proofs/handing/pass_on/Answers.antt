use Rattle.std.proofs.Common.{◌≡◌, ◌<◌, Some, None, length, sym, ap, ◌∙◌, arith}
use Rattle.task_owner.specs.Seats.{item_at}
use Rattle.task_owner.proofs.Places.{same_default}
use Rattle.task_owner.proofs.Gifts.{next_passed, none_at}
use Rattle.task_owner.proofs.handing.pass_on.Goals as goal
use Rattle.task_owner.proofs.handing.pass_on.Goals.{in-Some-numbers, in_default-numbers}

pub given-preserved : goal.given-preserved
given-preserved c =
    let e = c.in-Some.ensures in
    let n = c.in-Some.number in
    let low : n < length c.args.numbers.now = omega (arith, e.1, c.type_inv.numbers) in
    record {
      within = omega (arith, e.1);
      passed = elim c.match-numbers-number.branch [
        | in-Some-numbers w ↦
            let at : item_at c.args.numbers.now n ≡ Some w.in-Some-numbers.subpool = same_default c.args.numbers.now n None _ low ∙ w.in-Some-numbers.is in
            let o = c.requires.stand n w.in-Some-numbers.subpool e.2 at in
            next_passed c.args.gifts.now c.args.mother c.args.key c.args.numbers.now (item_at c.args.owned.now.items) (item_at c.given.owned.items) (item_at c.match-numbers-number.owned.items) c.given.from n e.0 e.2 e.3 c.requires.listed c.given.invariant.passed
            w.in-Some-numbers.subpool at o.0 o.1 o.2 (ap (λ v. item_at v.items w.in-Some-numbers.subpool) w.owned-is ∙ w.pass.ensures.here) (λ s d. ap (λ v. item_at v.items s) w.owned-is ∙ w.pass.ensures.others s d)
        | in_default-numbers w ↦
            none_at c.args.gifts.now c.args.mother c.args.key c.args.numbers.now (item_at c.args.owned.now.items) (item_at c.given.owned.items) (item_at c.match-numbers-number.owned.items) c.given.from n e.0 e.2 e.3 c.requires.listed c.given.invariant.passed
            (λ s h. w.in_default-numbers.not-Some s (sym (same_default c.args.numbers.now n None _ low) ∙ h)) (λ s. ap (λ v. item_at v.items s) w.owned-is)
      ];
      sizes = elim c.match-numbers-number.branch [
        | in-Some-numbers w ↦ ap (λ v. length v.items) w.owned-is ∙ w.pass.ensures.len ∙ c.given.invariant.sizes
        | in_default-numbers w ↦ ap (λ v. length v.items) w.owned-is ∙ c.given.invariant.sizes
      ];
    }
