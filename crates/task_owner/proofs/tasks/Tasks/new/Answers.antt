use Rattle.std.proofs.Common.{◌≡◌, ◌≤◌, [], rules, ap, ◌∙◌, Option, None, length, replicate, count_by, is_some, refl, arith}
use Rattle.std.proofs.lemmas.List.{length-replicate}
use Rattle.task_owner.specs.Seats.{item_at}
use Rattle.task_owner.specs.declared.task_slot.TaskSlot.{TaskSlot}
use Rattle.task_owner.specs.declared.task_slot.Owned.{Owned}
use Rattle.task_owner.proofs.tasks.Tasks.new.Goals as goal
use Rattle.task_owner.proofs.Places.{none_everywhere}
use Rattle.task_owner.proofs.Starting.{start_sound, starts, no_numbers}

pub invariant_of-result : goal.invariant_of-result
invariant_of-result c =
    let x : TaskSlot = record { name = c.args.name; mother = None; residence = c.args.residence; numbers = replicate 133 None } in
    let empty : c.in_ok-active.active.slots ≡ [] = search rules in
    let owners : c.in_ok-owned.owned.items ≡ replicate 4098 None = search rules in
    let few : count_by is_some c.in_ok-active.active.slots ≡ 0 = ap (count_by is_some) empty in
    let len = c.insert_reserved.ensures.len in
    let capacity = c.insert_reserved.ensures.capacity in
    let least : 32 ≤ c.in_ok-active.active.capacity = search rules in (
      start_sound c.insert_reserved.new.self.slots c.in_ok-owned.owned.items c.insert_reserved.result x c.insert_reserved.ensures.updates.changed
          (λ k n. c.insert_reserved.ensures.updates.others k n ∙ ap (λ xs. item_at xs k) empty)
          refl (λ n. no_numbers x 133 n refl) (λ s. ap (λ xs. item_at xs s) owners ∙ none_everywhere 4098 None s refl),
      ap length owners ∙ length-replicate {A = Option Owned} 4098 None,
      omega arith,
      omega arith,
    )

pub returns : goal.returns
returns c =
    let x : TaskSlot = record { name = c.args.name; mother = None; residence = c.args.residence; numbers = replicate 133 None } in
    let empty : c.in_ok-active.active.slots ≡ [] = search rules in
    let owners : c.in_ok-owned.owned.items ≡ replicate 4098 None = search rules in
    starts c.insert_reserved.new.self.slots c.in_ok-owned.owned.items c.insert_reserved.result x c.insert_reserved.ensures.updates.changed
    (λ k n. c.insert_reserved.ensures.updates.others k n ∙ ap (λ xs. item_at xs k) empty)
    refl (λ n. no_numbers x 133 n refl) (λ s. ap (λ xs. item_at xs s) owners ∙ none_everywhere 4098 None s refl)
