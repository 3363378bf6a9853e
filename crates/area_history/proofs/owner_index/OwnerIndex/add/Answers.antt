use Rattle.std.proofs.Common.{◌≡◌, ◌+◌, ◌&&◌, Bool, true, false, inl, inr, refl, sym, ap, subst, ◌∙◌}
use Rattle.mvs_model.proofs.Orders.{same_name_is}
use Rattle.area_history.specs.ReleaseIndex.{concerns_by, first_code, has_code}
use Rattle.area_history.proofs.Marking.{same_of}
use Rattle.area_history.proofs.owner_index.OwnerIndex.add.Goals as goal

both : (a b : Bool) → (a && b) ≡ true → (a ≡ true) × (b ≡ true)
both true b h = (refl, h)
both false b h = absurd (let e : false ≡ true = h in cc)

pub returns-in-Emptied-clause-added : goal.returns-in-Emptied-clause-added
returns-in-Emptied-clause-added c done owner n con =
    let new = c.insert.new.self in
    let change = c.args.change in
    let number = c.in-Emptied.number in
    let other = c.in-Emptied.owner in
    let is = both _ _ (sym (ap (concerns_by owner n c.args.event.now.task) c.in-Emptied.is) ∙ con) in
    inl (subst (λ o. has_code new (first_code o n + change) ≡ true) (same_name_is other owner is.1) (subst (λ k. has_code new (first_code other k + change) ≡ true) (c.get.ensures.value ∙ same_of number n is.0) (c.insert.ensures.added done)))

pub returns-in-Ended-clause-added : goal.returns-in-Ended-clause-added
returns-in-Ended-clause-added c done owner n con =
    let is = sym (ap (concerns_by owner n c.args.event.now.task) c.in-Ended.is) ∙ con in
    inr (subst (λ o. has_code c.insert-in-Ended.new.self (first_code o 255 + c.args.change) ≡ true) (same_name_is c.in-Ended.task owner is) (c.insert-in-Ended.ensures.added done))

pub returns-in-Attached-clause-added : goal.returns-in-Attached-clause-added
returns-in-Attached-clause-added c done owner n con =
    let task = c.args.event.now.task in
    let is = both _ _ (sym (ap (concerns_by owner n task) c.in-Attached.is) ∙ con) in
    inl (subst (λ o. has_code c.insert_given.new.self (first_code o n + c.args.change) ≡ true) (same_name_is task owner is.0) (c.insert_given.ensures.added done n is.1))
