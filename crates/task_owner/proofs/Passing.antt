-- What a mother gives stands under the numbers that the subtask has then.
use Rattle.std.proofs.Common.{◌≡◌, ℕ, ◌<◌, true, cond, ◌||◌, List, Option, Some, None, eqb, ltb, sym, ap, ◌∙◌, arith}
use Rattle.std.proofs.lemmas.Bool.{eqb-true, and_parts}
use Rattle.std.proofs.lemmas.Bool.Decides.{nat_tests}
use Rattle.slab.specs.Slab.{Slab, get as slot}
use Rattle.mvs_model.specs.Gifts.{GiftsValue, gives, shares}
use Rattle.task_owner.specs.Tasks.{TasksValue, IsTask}
use Rattle.task_owner.specs.Seats.{item_at, number_of, directory, IsSound}
use Rattle.task_owner.specs.Handing.{is_handed, taken}
use Rattle.task_owner.specs.declared.task_slot.TaskSlot.{TaskSlot}
use Rattle.task_owner.specs.declared.task_slot.Owned.{Owned}
use Rattle.task_owner.proofs.Collecting.{number_inside}
use Rattle.task_owner.proofs.Having.{gives_low}
use Rattle.task_owner.proofs.Reading.{the_seat}

module _ (old : Slab TaskSlot) (owned : List (Option Owned)) (d : TasksValue) (m id : ℕ) (e : directory old.slots owned ≡ d) (f : m ≡ id) (sound : IsSound old.slots owned) (active : IsTask d id) (gifts : GiftsValue) (numbers : List (Option ℕ))
    (takes : (x : TaskSlot) → slot old m ≡ Some x → (n : ℕ) → n < 133 → item_at numbers n ≡ taken gifts x.numbers n) where
  x : (x : TaskSlot) × (item_at old.slots m ≡ Some x)
  x = the_seat old.slots owned d m id e f active

  given_is : (n : ℕ) → n < 133 → gives gifts n ≡ true → item_at numbers n ≡ item_at x.0.numbers n
  given_is n low g = takes x.0 x.1 n low ∙ ap (λ b. cond (b || shares gifts n) (item_at x.0.numbers n) None) g

  pub given_stand : (n s : ℕ) → gives gifts n ≡ true → item_at numbers n ≡ Some s → (o : Owned) × (item_at owned s ≡ Some o) × (o.number ≡ n)
  given_stand n s g h =
      let less : n < 128 = gives_low gifts n g in
      let low : n < 133 = omega arith in
      sound.entries m n s x.0 x.1 (ap (λ b. cond b (item_at x.0.numbers n) None) (let t : ltb n 133 ≡ true = grind (arith, nat_tests) in t) ∙ sym (given_is n low g) ∙ h)

  pub handed_listed : (s : ℕ) (o : Owned) → item_at owned s ≡ Some o → is_handed gifts m o ≡ true → item_at numbers o.number ≡ Some s
  handed_listed s o h t =
      let both = and_parts (eqb o.owner m) (gives gifts o.number) t in
      let y = sound.owners s o h in
      let g : Some y.0 ≡ Some x.0 = sym y.1 ∙ ap (item_at old.slots) (eqb-true o.owner m both.0) ∙ x.1 in
      let same : y.0 ≡ x.0 = cc in
      let r = number_inside x.0 o.number s (ap (λ v. number_of v o.number) (sym same) ∙ y.2) in
      given_is o.number r.0 both.1 ∙ r.1
