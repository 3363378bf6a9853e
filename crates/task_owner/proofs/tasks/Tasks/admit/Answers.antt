use Rattle.std.proofs.Common.{◌≡◌, ◌∙◌, sym, ap, arith}
use Rattle.task_owner.specs.Seats.{item_at}
use Rattle.task_owner.specs.Handing.{passed_on}
use Rattle.task_owner.proofs.Passing.{given_stand, handed_listed}
use Rattle.std.specs.FinMap.{len}
use Rattle.slab.specs.Slab.{slab_len}
use Rattle.task_owner.proofs.tasks.Tasks.admit.Goals as goal
use Rattle.task_owner.proofs.Reading.{is_seat}
use Rattle.task_owner.proofs.Refusing.{len_is}
use Rattle.task_owner.proofs.Admitted.{admitted}

pub hand_over-requires : goal.hand_over-requires
hand_over-requires c = is_seat _ _ _ _ _ c.self.view_is c.mother.view_is c.requires.active

pub pass_on-requires-clause-stand : goal.pass_on-requires-clause-stand
pass_on-requires-clause-stand c = given_stand c.self.inside.active c.self.inside.owned.items _ _ _ c.self.view_is c.mother.view_is c.self.invariant.0 c.requires.active c.args.gifts.now c.hand_over.result c.hand_over.ensures.taken

pub pass_on-requires-clause-listed : goal.pass_on-requires-clause-listed
pass_on-requires-clause-listed c = handed_listed c.self.inside.active c.self.inside.owned.items _ _ _ c.self.view_is c.mother.view_is c.self.invariant.0 c.requires.active c.args.gifts.now c.hand_over.result c.hand_over.ensures.taken

pub insert_reserved-key-requires : goal.insert_reserved-key-requires
insert_reserved-key-requires c =
    let few : len c.args.self.now.owners.tasks ≡ slab_len c.self.inside.active = len_is _ _ _ c.self.view_is c.self.invariant.0 in
    omega (arith, few, c.requires.room, c.hand_over.ensures.len, c.hand_over.ensures.capacity, c.self.invariant.3)

pub invariant_of-self : goal.invariant_of-self
invariant_of-self c =
    let few : len c.args.self.now.owners.tasks ≡ slab_len c.self.inside.active = len_is _ _ _ c.self.view_is c.self.invariant.0 in (
      (admitted c.self.inside.active c.hand_over.new.active c.insert_reserved-key.new.self c.self.inside.owned.items c.pass_on.new.owned.items _ _ _ c.self.view_is c.mother.view_is c.self.invariant.0 c.requires.active
          c.args.name.now c.args.gifts.now c.args.residence c.hand_over.result c.insert_reserved-key.result c.requires.new c.requires.owned c.hand_over.ensures.taken c.hand_over.ensures.left
          c.hand_over.ensures.others c.insert_reserved-key.ensures.was_vacant c.insert_reserved-key.ensures.updates.changed c.insert_reserved-key.ensures.updates.others (λ s. c.pass_on.ensures.passed s ∙ ap (λ k. passed_on c.args.gifts.now c.mother.inside.key k (item_at c.self.inside.owned.items s)) (c.vacant_key-key.ensures.value ∙ sym c.insert_reserved-key.ensures.key))).sound,
      c.pass_on.ensures.len ∙ c.self.invariant.1,
      omega (arith, few, c.requires.room, c.hand_over.ensures.len, c.insert_reserved-key.ensures.len),
      omega (arith, c.self.invariant.3, c.hand_over.ensures.capacity, c.insert_reserved-key.ensures.capacity),
    )

pub returns : goal.returns
returns c =
    let r = admitted c.self.inside.active c.hand_over.new.active c.insert_reserved-key.new.self c.self.inside.owned.items c.pass_on.new.owned.items _ _ _ c.self.view_is c.mother.view_is c.self.invariant.0 c.requires.active
    c.args.name.now c.args.gifts.now c.args.residence c.hand_over.result c.insert_reserved-key.result c.requires.new c.requires.owned c.hand_over.ensures.taken c.hand_over.ensures.left
    c.hand_over.ensures.others c.insert_reserved-key.ensures.was_vacant c.insert_reserved-key.ensures.updates.changed c.insert_reserved-key.ensures.updates.others (λ s. c.pass_on.ensures.passed s ∙ ap (λ k. passed_on c.args.gifts.now c.mother.inside.key k (item_at c.self.inside.owned.items s)) (c.vacant_key-key.ensures.value ∙ sym c.insert_reserved-key.ensures.key)) in
    record { admits = r.admits; named = r.named; fresh = r.fresh; others = r.others }
