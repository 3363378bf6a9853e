-- The job step task alone.
use Rattle.std.proofs.Common.{◌≡◌, ◌≢◌, ℕ, Bool, true, false, cond, List, Option, Some, None, replicate, ltb, sym, ap, refl, ◌∙◌, ◌⊎◌, inl, inr}
use Rattle.std.specs.Option.{option_map}
use Rattle.std.specs.Ordering.{nat_cmp}
use Rattle.std.specs.Cmp.{nat_cmp_total}
use Rattle.std.specs.FinMap.{get, empty, same_map, get-insert, get-empty, nat_cmp-IsAntisymmetric}
use Rattle.mvs_model.specs.declared.name.Name.{Name}
use Rattle.mvs_model.specs.Name.{name_cmp, same_name}
use Rattle.mvs_model.specs.Owners.{entry_cmp}
use Rattle.mvs_model.proofs.Orders.{name_cmp_total, entry_cmp_total, name_cmp-IsAntisymmetric, entry_cmp-IsAntisymmetric}
use Rattle.mvs_model.specs.Start.{first_owners}
use Rattle.task_owner.specs.Seats.{item_at, number_of, seat_named, mother_of, task_of, entry_of, owner_name, directory, IsSound}
use Rattle.task_owner.specs.declared.task_slot.TaskSlot.{TaskSlot}
use Rattle.task_owner.specs.declared.task_slot.Owned.{Owned}
use Rattle.task_owner.proofs.Places.{same_or_not, none_everywhere}
use Rattle.task_owner.proofs.Reading.{found, found_at, not_found, name_cases, view-task, view-entry, view-owner}

-- no subpool stands under any number
either_none : (b : Bool) (o : Option ℕ) → o ≡ None → cond b o None ≡ None
either_none true o e = e
either_none false o e = refl

pub no_numbers : (x : TaskSlot) (m n : ℕ) → x.numbers ≡ replicate m None → number_of x n ≡ None
no_numbers x m n e = either_none (ltb n 133) (item_at x.numbers n) (ap (λ xs. item_at xs n) e ∙ none_everywhere m None n refl)

-- one task alone, without subpools
module _ (seats : List (Option TaskSlot)) (owned : List (Option Owned)) (key : ℕ) (x : TaskSlot) (h : item_at seats key ≡ Some x) (others : (k : ℕ) → k ≢ key → item_at seats k ≡ None)
    (mother : x.mother ≡ None) (numbers : (n : ℕ) → number_of x n ≡ None) (none : (s : ℕ) → item_at owned s ≡ None) where
  is_key : (k : ℕ) (y : TaskSlot) → item_at seats k ≡ Some y → k ≡ key
  is_key k y e = by (same_or_not k key) where
    by : (k ≡ key) ⊎ (k ≢ key) → k ≡ key
    by (inl p) = p
    by (inr d) = absurd (let f : None ≡ Some y = sym (others k d) ∙ e in cc)

  is_x : (k : ℕ) (y : TaskSlot) → item_at seats k ≡ Some y → y ≡ x
  is_x k y e = let f : Some y ≡ Some x = sym e ∙ ap (item_at seats) (is_key k y e) ∙ h in cc

  pub start_sound : IsSound seats owned
  start_sound = record {
    distinct = λ j k y z ey ez n. is_key j y ey ∙ sym (is_key k z ez);
    mothers = λ k m y ey em. absurd (no_mother k m y ey em);
    ranked = (λ _. 0, λ k m y ey em. absurd (no_mother k m y ey em));
    first = λ j k y z ey ez a b. is_key j y ey ∙ sym (is_key k z ez);
    entries = λ k n s y ey en. absurd (let f : None ≡ Some s = sym (numbers n) ∙ ap (λ z. number_of z n) (sym (is_x k y ey)) ∙ en in cc);
    places = λ k n s y ey en. absurd (let f : None ≡ Some s = sym (numbers n) ∙ ap (λ z. number_of z n) (sym (is_x k y ey)) ∙ en in cc);
    owners = λ s o e. absurd (let f : None ≡ Some o = sym (none s) ∙ e in cc);
  } where
    no_mother : (k m : ℕ) (y : TaskSlot) → item_at seats k ≡ Some y → y.mother ≡ Some m → ⊥
    no_mother k m y ey em = let f : None ≡ Some m = sym mother ∙ ap (λ (z : TaskSlot). z.mother) (sym (is_x k y ey)) ∙ em in cc

  not_named : (q : Name) → q ≢ x.name → seat_named seats q ≡ None
  not_named q d = not_found seats q (λ k y g n. d (sym n ∙ ap (λ (z : TaskSlot). z.name) (is_x k y g)))

  tasks_at : (q : Name) → get (directory seats owned).owners.tasks q ≡ get (first_owners x.name x.residence).tasks q
  tasks_at q =
      view-task seats owned q ∙ by (name_cases q x.name)
      ∙ sym (get-insert name_cmp_total empty x.name (record { mother = None; residence = x.residence }) q ∙ ap (cond (same_name q x.name) (Some (record { mother = None; residence = x.residence }))) (get-empty name_cmp q))
    where
      by : ((same_name q x.name ≡ true) × (q ≡ x.name)) ⊎ ((same_name q x.name ≡ false) × (q ≢ x.name)) → option_map (task_of seats) (seat_named seats q) ≡ cond (same_name q x.name) (Some (record { mother = None; residence = x.residence })) None
      by (inl r) =
          ap (λ t. option_map (task_of seats) (seat_named seats t)) r.1 ∙ ap (option_map (task_of seats)) (found seats key x start_sound.distinct h)
          ∙ ap (λ m. Some (record { mother = mother_of seats m; residence = x.residence })) mother ∙ ap (λ b. cond b (Some (record { mother = None; residence = x.residence })) None) (sym r.0)
      by (inr r) = ap (option_map (task_of seats)) (not_named q r.1) ∙ ap (λ b. cond b (Some (record { mother = None; residence = x.residence })) None) (sym r.0)

  entries_at : (e : Name × ℕ) → get (directory seats owned).owners.table e ≡ get (first_owners x.name x.residence).table e
  entries_at e = view-entry seats owned e.0 e.1 ∙ by (seat_named seats e.0) refl ∙ sym (get-empty entry_cmp e) where
    by : (o : Option TaskSlot) → seat_named seats e.0 ≡ o → entry_of o e.1 ≡ None
    by None f = refl
    by (Some y) f = let r = found_at seats e.0 y f in ap (λ z. number_of z e.1) (is_x r.0 y r.1) ∙ numbers e.1

  owner_at : (s : ℕ) → get (directory seats owned).owners.owner s ≡ get (first_owners x.name x.residence).owner s
  owner_at s = view-owner seats owned s ∙ ap (owner_name seats) (none s) ∙ sym (get-empty nat_cmp s)

  pub starts : (directory seats owned).owners ≡ first_owners x.name x.residence
  starts =
      let t = same_map name_cmp_total name_cmp-IsAntisymmetric (directory seats owned).owners.tasks (first_owners x.name x.residence).tasks tasks_at in
      let e = same_map entry_cmp_total entry_cmp-IsAntisymmetric (directory seats owned).owners.table (first_owners x.name x.residence).table entries_at in
      let o = same_map nat_cmp_total nat_cmp-IsAntisymmetric (directory seats owned).owners.owner (first_owners x.name x.residence).owner owner_at in
      λ i. record { tasks = t i; table = e i; owner = o i }
