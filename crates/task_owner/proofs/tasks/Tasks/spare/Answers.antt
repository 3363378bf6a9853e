use Rattle.std.proofs.Common.{◌≡◌, ◌<◌, refl, subst, ap, sym, ◌∙◌, List, length, take, arith}
use Rattle.std.proofs.lemmas.List.{take_all}
use Rattle.mvs_model.specs.Owners.{IsSpare, subpool_meant}
use Rattle.task_owner.specs.Tasks.{name_of}
use Rattle.task_owner.specs.Seats.{item_at}
use Rattle.task_owner.proofs.tasks.Tasks.spare.Goals as goal
use Rattle.task_owner.proofs.Keepers.{none_meant}
use Rattle.task_owner.proofs.Labels.{least_spare}
use Rattle.task_owner.proofs.Room.{room}

-- the part of a list that is as long as the list
whole : {X : Type 0} (xs ys : List X) → ys ≡ xs → length xs ≡ 4098 → take 4098 ys ≡ xs
whole xs ys e n = ap (take 4098) e ∙ take_all 4098 xs (omega (arith, n))

pub slice_bounds-first_spare-end : goal.slice_bounds-first_spare-end
slice_bounds-first_spare-end c = sym (ap length (whole _ _ c.as_slice.ensures.value c.self.invariant.1) ∙ c.self.invariant.1)

pub first_spare-requires : goal.first_spare-requires
first_spare-requires c =
    let is = whole _ _ c.as_slice.ensures.value c.self.invariant.1 in
    let y = none_meant _ _ _ c.self.view_is c.self.invariant.0 _ c.args.t c.get-number.result refl c.requires.active c.get-number.ensures.valid
    (ap (subpool_meant c.args.self.now.owners (name_of c.args.self.now c.args.t)) c.get-number.ensures.value ∙ c.requires.none) in
    let r = room _ _ c.self.invariant.0 y.0 c.get-number.result y.1 c.self.invariant.1 c.self.invariant.2 y.2 y.3 y.4 in
    (r.0, subst (λ xs. r.0 < length xs) (sym is) r.1, ap (λ xs. item_at xs r.0) is ∙ r.2)

pub overflow_cast-first_spare : goal.overflow_cast-first_spare
overflow_cast-first_spare c =
    let long : length (take 4098 c.as_slice.result.now) ≡ 4098 = ap length (whole _ _ c.as_slice.ensures.value c.self.invariant.1) ∙ c.self.invariant.1 in
    omega (arith, c.first_spare.ensures.low)

pub new-requires : goal.new-requires
new-requires c =
    let long : length (take 4098 c.as_slice.result.now) ≡ 4098 = ap length (whole _ _ c.as_slice.ensures.value c.self.invariant.1) ∙ c.self.invariant.1 in
    omega (arith, c.first_spare.ensures.low)

pub returns : goal.returns
returns c =
    let is = whole _ _ c.as_slice.ensures.value c.self.invariant.1 in
    subst (λ s. IsSpare c.args.self.now.owners s) (sym c.new.ensures)
    (least_spare _ _ _ c.first_spare.result c.self.view_is c.self.invariant.0
    (ap (λ xs. item_at xs c.first_spare.result) (sym is) ∙ c.first_spare.ensures.spare)
    (λ r h. rw (← is) (c.first_spare.ensures.least r h)))
