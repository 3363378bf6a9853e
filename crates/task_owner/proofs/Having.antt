-- Under which numbers a task may have subpools.
use Rattle.std.proofs.Common.{◌≡◌, ℕ, ◌<◌, true, ltb, arith, sym, ◌∙◌, inl, inr}
use Rattle.std.proofs.lemmas.Bool.Decides.{nat_tests}
use Rattle.std.proofs.lemmas.Bool.{and_parts}
use Rattle.mvs_model.specs.Gifts.{GiftsValue, gives, shares}
use Rattle.mvs_model.specs.Subpool.{is_subpool_number}
use Rattle.task_owner.specs.Seats.{MayHave}
use Rattle.task_owner.specs.declared.task_slot.TaskSlot.{TaskSlot}

-- a task with the same mother may have the same
pub same_place : (x y : TaskSlot) (n : ℕ) → x.mother ≡ y.mother → MayHave x n → MayHave y n
same_place x y n e (inl low) = inl low
same_place x y n e (inr r) = inr (r.0, sym e ∙ r.1)

-- what is given and shared are numbers that each task has for itself
low : (n : ℕ) → ltb n 128 ≡ true → n < 128
low n h = grind (arith, nat_tests)

pub gives_low : (gifts : GiftsValue) (n : ℕ) → gives gifts n ≡ true → n < 128
gives_low gifts n h = low n (and_parts (ltb n 128) _ h).0

pub shares_low : (gifts : GiftsValue) (n : ℕ) → shares gifts n ≡ true → n < 128
shares_low gifts n h = low n (and_parts (ltb n 128) _ h).0

-- such a number is one that a program may name
pub is_number : (x : TaskSlot) (n : ℕ) → MayHave x n → is_subpool_number n ≡ true
is_number x n (inl l) = let low : n < 128 = l in grind (arith, nat_tests)
is_number x n (inr r) = let step = r.0 in grind (arith, nat_tests)
