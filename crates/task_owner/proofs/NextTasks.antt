-- The first of the tasks of a slab whose name is after a given one.
use Rattle.std.proofs.Common.{◌≡◌, ◌<◌, ℕ, List, [], ◌∷◌, Option, Some, None, false, refl, sym, ap, subst, ◌⊎◌, arith, inl, inr, Contains}
use Rattle.std.specs.Prelude.{MatchOption}
use Rattle.slab.specs.Slab.{Slab, get, entries}
use Rattle.slab.proofs.SlabLemmas.{Contains-cons, Contains-cons_cases, Contains-entries}
use Rattle.mvs_model.specs.declared.name.Name.{Name}
use Rattle.mvs_model.specs.NextName.{is_before, IsAfter, IsFirstOf}
use Rattle.mvs_model.proofs.NextNames.{first_from, first_least, first_lower}
use Rattle.task_owner.specs.declared.task_slot.TaskSlot.{TaskSlot}

-- The name is a task's, and after the given one.
pub record IsFound (active : Slab TaskSlot) (given : Option Name) (next : Name) : Type 0 where
  pub key : ℕ
  pub task : TaskSlot
  pub there : get active key ≡ Some task
  pub named : task.name ≡ next
  pub after : IsAfter next given

-- The name is not before the one that was found.
pub record IsLater (found : Option Name) (name : Name) : Type 0 where
  pub next : Name
  pub is : found ≡ Some next
  pub later : is_before name next ≡ false

-- The tasks that are left are tasks of the slab, and what was found is the first of the others whose name is after the given one.
pub record FirstSeen (active : Slab TaskSlot) (given : Option Name) (left : List (ℕ × TaskSlot)) (found : Option Name) : Type 0 where
  pub there : (k : ℕ) (x : TaskSlot) → Contains left (k, x) → get active k ≡ Some x
  pub from : (f : Name) → found ≡ Some f → IsFound active given f
  pub least : (k : ℕ) (x : TaskSlot) → get active k ≡ Some x → IsAfter x.name given → Contains left (k, x) ⊎ IsLater found x.name

module _ (active : Slab TaskSlot) (given : Option Name) (left : List (ℕ × TaskSlot)) where
  -- at first all are left
  pub seen_all : left ≡ entries active → FirstSeen active given left None
  seen_all all = record {
    there = λ k x listed. (Contains-entries active k x).0 (subst (λ l. Contains l (k, x)) all listed);
    from = λ f e. absurd (let no_name : ◌≡◌ {A = Option Name} None (Some f) = e in cc);
    least = λ k x there _. inl (subst (λ l. Contains l (k, x)) (sym all) ((Contains-entries active k x).1 there));
  }

  module _ (found : Option Name) where
    -- where none is left, nothing is before what was found
    pub seen_none : left ≡ [] → FirstSeen active given left found → (k : ℕ) (x : TaskSlot) → get active k ≡ Some x → IsAfter x.name given → IsLater found x.name
    seen_none empty s k x there after = elim (s.least k x there after) [
      | inl listed ↦ absurd (let none : Contains [] (k, x) = subst (λ l. Contains l (k, x)) empty listed in let within : none.0 < 0 = none.1 in omega arith)
      | inr later ↦ later
    ]

    -- one more is seen
    pub seen_rest : (key : ℕ) (seat : TaskSlot) (rest : List (ℕ × TaskSlot)) (first : Option Name) → left ≡ (key, seat) ∷ rest → FirstSeen active given left found → IsFirstOf found seat.name given first → FirstSeen active given rest first
    seen_rest key seat rest first step s h = record {
      there = λ k x listed. s.there k x (subst (λ l. Contains l (k, x)) (sym step) (Contains-cons (key, seat) (k, x) rest listed));
      from = λ f e. elim (first_from found seat.name given first h f e) [
        | inl before ↦ s.from f before
        | inr (same, after) ↦ record {
          key = key;
          task = seat;
          there = s.there key seat (subst (λ l. Contains l (key, seat)) (sym step) (0, omega arith, refl));
          named = same;
          after = subst (λ n. IsAfter n given) same after;
        }
      ];
      least = λ k x there after. elim (s.least k x there after) [
        | inl listed ↦ elim (Contains-cons_cases (key, seat) (k, x) rest (subst (λ l. Contains l (k, x)) step listed)) [
          | inl here ↦ inr (of_least x (ap (λ p. p.1.name) here) after)
          | inr later ↦ inl later
        ]
        | inr later ↦ inr (let r = first_lower found seat.name given first h x.name later.next later.is later.later in record { next = r.0; is = r.1; later = r.2 })
      ];
    } where
      of_least : (x : TaskSlot) → seat.name ≡ x.name → IsAfter x.name given → IsLater first x.name
      of_least x same after =
          let r = first_least found seat.name given first h (subst (λ n. IsAfter n given) (sym same) after) in
          record { next = r.0; is = r.1; later = subst (λ n. is_before n r.0 ≡ false) same r.2 }

-- what was found, where none is left
pub first_correct : (active : Slab TaskSlot) (given : Option Name) (left : List (ℕ × TaskSlot)) (found : Option Name) → left ≡ [] → FirstSeen active given left found
    → MatchOption found ((k : ℕ) (x : TaskSlot) → get active k ≡ Some x → IsAfter x.name given → ⊥)
    (λ next. ((k : ℕ) × (x : TaskSlot) × (get active k ≡ Some x) × (x.name ≡ next) × IsAfter next given)
    × ((k : ℕ) (x : TaskSlot) → get active k ≡ Some x → IsAfter x.name given → is_before x.name next ≡ false))
first_correct active given left None empty s = λ k x there after. (let l = seen_none active given left None empty s k x there after in let no_name : ◌≡◌ {A = Option Name} None (Some l.next) = l.is in cc)
first_correct active given left (Some next) empty s =
    let f = s.from next refl in (
      (f.key, f.task, f.there, f.named, f.after),
      λ k x there after. (
          let l = seen_none active given left (Some next) empty s k x there after in
          let same : next ≡ l.next = (let e : Some next ≡ Some l.next = l.is in cc) in
          subst (λ n. is_before x.name n ≡ false) (sym same) l.later),
    )
