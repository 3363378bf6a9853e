-- Owners of subpools: what is read off, and the lowest subpool without one.
use Rattle.std.proofs.Common.{◌≡◌, ℕ, ◌<◌, ◌≤◌, false, inl, inr, List, length, Option, Some, None, is_some, IsSome, eqb, sym, ap, subst, refl, ◌∙◌}
use Rattle.std.proofs.lemmas.Bool.{eq-eqb, cases_lt, eqb-true, false≢true}
use Rattle.std.specs.Option.{option_map}
use Rattle.std.specs.FinMap.{get}
use Rattle.mvs_model.specs.Name.{same_name}
use Rattle.mvs_model.specs.Finite.{has}
use Rattle.mvs_model.specs.Owners.{entry, owns, IsSpare}
use Rattle.mvs_model.proofs.Orders.{same_name_is, same_name_self}
use Rattle.task_owner.specs.Tasks.{TasksValue, IsTask, name_of}
use Rattle.task_owner.specs.Seats.{item_at, number_of, entry_of, owner_name, directory, IsSound}
use Rattle.task_owner.specs.declared.task_slot.TaskSlot.{TaskSlot}
use Rattle.task_owner.specs.declared.task_slot.Owned.{Owned}
use Rattle.task_owner.proofs.Places.{of_some, past_end}
use Rattle.task_owner.proofs.Reading.{found, view-entry, view-owner, the_seat, name_is}
use Rattle.mvs_model.proofs.Tests.{same_test}

module _ (seats : List (Option TaskSlot)) (owned : List (Option Owned)) (d : TasksValue) (s : ℕ) (e : directory seats owned ≡ d) where
  owner_is : get d.owners.owner s ≡ owner_name seats (item_at owned s)
  owner_is = ap (λ (v : TasksValue). get v.owners.owner s) (sym e) ∙ view-owner seats owned s

  pub unlabelled : item_at owned s ≡ None → get d.owners.owner s ≡ None
  unlabelled h = owner_is ∙ ap (owner_name seats) h

  module _ (sound : IsSound seats owned) where
    pub labelled : (o : Owned) (x : TaskSlot) → item_at owned s ≡ Some o → item_at seats o.owner ≡ Some x → (get d.owners.owner s ≡ Some x.name) × (entry d.owners x.name o.number ≡ Some s)
    labelled o x h at = (
      owner_is ∙ ap (owner_name seats) h ∙ ap (option_map (λ y. y.name)) at,
      subst (λ (v : TasksValue). entry v.owners x.name o.number ≡ Some s) e
          (view-entry seats owned x.name o.number ∙ ap (λ y. entry_of y o.number) (found seats o.owner x sound.distinct at) ∙ ap (λ z. number_of z o.number) same ∙ r.2),
    )
      where
        r : (y : TaskSlot) × (item_at seats o.owner ≡ Some y) × (number_of y o.number ≡ Some s)
        r = sound.owners s o h

        same : x ≡ r.0
        same = let f : Some x ≡ Some r.0 = sym at ∙ r.1 in cc

    -- a subpool that has an owner
    pub has_label : IsSome (item_at owned s) → IsSome (get d.owners.owner s)
    has_label = by (item_at owned s) refl where
      by : (o : Option Owned) → item_at owned s ≡ o → IsSome o → IsSome (get d.owners.owner s)
      by None f some = absurd (false≢true some)
      by (Some o) f some = let x = sound.owners s o f in ap is_some (labelled o x.0 f x.1).0

    -- a subpool that no task owns
    pub unowned : get d.owners.owner s ≡ None → item_at owned s ≡ None
    unowned h = by (item_at owned s) refl where
      by : (o : Option Owned) → item_at owned s ≡ o → o ≡ None
      by None f = refl
      by (Some o) f =
          let x = sound.owners s o f in
          let g : Some x.0.name ≡ None = sym (labelled o x.0 f x.1).0 ∙ h in
          absurd (cc)

    -- whether a task owns the subpool
    module _ (key id : ℕ) (f : key ≡ id) (active : IsTask d id) where
      pub owns_none : item_at owned s ≡ None → false ≡ owns d.owners (name_of d id) s
      owns_none h = sym (ap (has (same_name (name_of d id))) (unlabelled h))

      pub owns_some : (o : Owned) → item_at owned s ≡ Some o → eqb o.owner key ≡ owns d.owners (name_of d id) s
      owns_some o h =
          let x = the_seat seats owned d key id e f active in
          let y = sound.owners s o h in
          same_test (eqb o.owner key) (same_name x.0.name y.0.name)
          (λ t.
          let g : Some y.0 ≡ Some x.0 = sym y.1 ∙ ap (item_at seats) (eqb-true o.owner key t) ∙ x.1 in
          let same : y.0 ≡ x.0 = cc in
          ap (λ (z : TaskSlot). same_name x.0.name z.name) same ∙ same_name_self x.0.name)
          (λ t. eq-eqb o.owner key (sound.distinct o.owner key y.0 x.0 y.1 x.1 (sym (same_name_is x.0.name y.0.name t))))
          ∙ ap (λ n. same_name n y.0.name) (sym (name_is seats owned d key id e f sound x.0 x.1))
          ∙ sym (ap (has (same_name (name_of d id))) (labelled o y.0 h y.1).0)

  -- the lowest without an owner
  pub least_spare : IsSound seats owned → item_at owned s ≡ None → ((r : ℕ) → r < s → IsSome (item_at owned r)) → IsSpare d.owners s
  least_spare sound h below = record { spare = unlabelled h; least = lower } where
    lower : (r : ℕ) → r < s → IsSome (get d.owners.owner r)
    lower r p =
        let o = of_some (item_at owned r) (below r p) in
        let x = sound.owners r o.0 o.1 in
        ap is_some (ap (λ (v : TasksValue). get v.owners.owner r) (sym e) ∙ view-owner seats owned r ∙ ap (owner_name seats) o.1 ∙ ap (option_map (λ y. y.name)) x.1)

-- what stands at the places from one on, and where each of them has nothing
pub none_owned : (seats : List (Option TaskSlot)) (owned : List (Option Owned)) (d : TasksValue) (from to : ℕ) → directory seats owned ≡ d → ((s : ℕ) → from ≤ s → s < to → item_at owned s ≡ None) → (s : ℕ) → from ≤ s → s < to → get d.owners.owner s ≡ None
none_owned seats owned d from to e none s low high = unlabelled seats owned d s e (none s low high)

pub none_past : (seats : List (Option TaskSlot)) (owned : List (Option Owned)) (d : TasksValue) (from : ℕ) → directory seats owned ≡ d → ((s : ℕ) → from ≤ s → s < length owned → item_at owned s ≡ None) → (s : ℕ) → from ≤ s → get d.owners.owner s ≡ None
none_past seats owned d from e none s low = elim (cases_lt s (length owned)) [
  | inl inside ↦ unlabelled seats owned d s e (none s low inside)
  | inr past ↦ unlabelled seats owned d s e (past_end owned s past)
]
