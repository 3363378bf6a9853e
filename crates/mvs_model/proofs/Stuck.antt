-- The machine is never stuck: each request has a step in each state.
use Rattle.std.proofs.Common.{◌≡◌, ℕ, ◌+◌, ◌*◌, ◌%◌, ◌<◌, ◌≤◌, ◌⊎◌, inl, inr, Bool, true, false, List, [], ◌∷◌, map, length, Option, Some, None, arith, refl, ap, sym, subst, ◌∙◌, not, ◌&&◌, nat_le, ◌==◌, MatchBool, Contains}
use Rattle.std.specs.List.{list_all}
use Rattle.std.proofs.lemmas.Bool.Decides.{nat_tests}
use Rattle.std.specs.FinMap.{get, insert, nat_cmp-IsAntisymmetric, contains_key, len}
use Rattle.std.specs.FinSet as set
use Rattle.mvs_model.proofs.Types.{Name, Side, Below, Residence, Form, Located, Code, System, User, Request, Obtain, ObtainList, Release, ReleaseList, ReleaseWhole, Build, Get, Free, Delete, Attach, Return, Abend, Show, Put, Move, Reply, NotRun, Rc0, Rc4, Obtained, Listed, Cell, NoCell, Attached, Ended, Done, Abended}
use Rattle.mvs_model.specs.Place.{PlaceValue, place_at, round8}
use Rattle.mvs_model.specs.Want.{WantValue, want_of, fixed_want}
use Rattle.mvs_model.specs.Gifts.{GiftsValue}
use Rattle.mvs_model.specs.Storage.{Chosen, NoPlace, covers, has_address}
use Rattle.mvs_model.specs.Owners.{Owners, is_active, effective_task, subpool_meant, SubpoolOf, Ends, ends_with, has_subtask}
use Rattle.mvs_model.proofs.ByCase.{attach_refusal}
use Rattle.mvs_model.specs.Pools.{Pool, Part, part_want, part_length, first_cell, IsCellOf, IsFreeCell, cell_at, in_parts, in_taken}
use Rattle.mvs_model.specs.State.{State, plain, pooled, holder, granted}
use Rattle.mvs_model.specs.Codes.{family, is_conditional, short, bad_subpool, bad_address, not_held}
use Rattle.mvs_model.specs.Changes.{with_part, GrantTo, ShortOf, ListGrant, HeldPlain, Frees, Drops, Empties, End, Extends, TakesCell, GivesCell, DropsPool, Writes, any_covers, any_has}
use Rattle.mvs_model.proofs.ByCase.{ListShort}
use Rattle.mvs_model.specs.Requests.{Plan, side_for, is_invalid, whole, on_doubleword, EmptiesEntry, new_pool, Builds, Gets, GetsMore, all_granted, bytes_from, moved_from, IsRequest}
use Rattle.mvs_model.specs.Consequences.{Abends, Refuses}
use Rattle.mvs_model.proofs.ByCase.{StepCase, Fails, ObtainStep, ObtainListStep, MayRelease, ReleaseStep, ReleaseWholeStep, BuildStep, GetsNone, GetStep, FreeStep, DeleteStep, AttachCase, ReturnStep, Accesses, Acts}
use Rattle.mvs_model.specs.Steps.{Step}
use Rattle.mvs_model.specs.WellFormed.{PoolsSized}
use Rattle.mvs_model.proofs.Holdings.{decided_held, decided_each, decided_disjoint}
use Rattle.mvs_model.proofs.StepCases.{cases_step}
use Rattle.mvs_model.proofs.Decide.{Decided, decided_and, decided_lt, decided_some}
use Rattle.mvs_model.proofs.Elements.{later, first_or_later}
use Rattle.mvs_model.proofs.Search.{chosen_or_none}
use Rattle.mvs_model.proofs.Made.{made_values, made_changes, made_without, made_keeps, made_at, made_gone}
use Rattle.mvs_model.proofs.Orders.{name_cmp-IsAntisymmetric}
use Rattle.mvs_model.proofs.Falling.{fallen_some}
use Rattle.mvs_model.proofs.Owning.{subpool_some, enters_some, ends_some, attach_some}
use Rattle.mvs_model.proofs.CellPlaces.{has_is}

-- A doubleword that a place covers, and an address in it, are below a bound.
covers_low : (p : PlaceValue) (d : ℕ) → covers p d ≡ true → d < p.addr + p.len
covers_low p d e = grind (arith, nat_tests)

-- a place that is chosen can be granted
pub granted_some : (old : State) (t : Name) (number : ℕ) (want : WantValue) (s : ℕ) (p : PlaceValue) → SubpoolOf old.owners t number s → Chosen old.regions (holder old) s want p → (new : State) × GrantTo old t number want p new
granted_some old t number want s p is c =
    let held = made_changes old.held (p.addr + p.len) (covers p) (plain s) (covers_low p) in
    let bytes = made_changes old.bytes (p.addr + p.len) (has_address p) old.regions.fill (λ a e. (has_is p a e).1) in
    let owners = enters_some old.owners t number s in (
      record { regions = old.regions; held = held.0; bytes = bytes.0; owners = owners.0; pools = old.pools },
      record { subpool = s; is_subpool = is; chosen = c; regions = refl; held = held.1; bytes = bytes.1; owners = owners.1; pools = refl },
    )

-- what some subpools hold can go
drops_some : (old : State) (test : ℕ → Bool) (owners : Owners) → (new : State) × (Drops old test new × (new.owners ≡ owners))
drops_some old test owners =
    let held = made_keeps nat_cmp-IsAntisymmetric old.held (λ _ h. not (test h.subpool)) in
    let pools = made_keeps name_cmp-IsAntisymmetric old.pools (λ _ p. not (test p.subpool)) in
    let mid : State = record { regions = old.regions; held = held.0; bytes = old.bytes; owners = owners; pools = pools.0 } in
    let bytes = made_keeps nat_cmp-IsAntisymmetric old.bytes (λ a _. granted mid a) in (
      record { regions = old.regions; held = held.0; bytes = bytes.0; owners = owners; pools = pools.0 },
      (record { regions = refl; held = held.1; pools = pools.1; bytes = bytes.1 }, refl),
    )

-- a task can end
end_some : (old : State) (t : Name) → (new : State) × End old t new
end_some old t =
    let fallen = fallen_some old.owners t in
    let owners = ends_some old.owners t fallen.0 in
    let d = drops_some old (ends_with old.owners t fallen.0) owners.0 in
    (d.0, record { fallen = fallen.0; is_fallen = fallen.1; drops = d.1.0; owners = subst (λ o. Ends old.owners t fallen.0 o) (sym d.1.1) owners.1 })

empties_some : (old : State) (s : ℕ) → (new : State) × Empties old s new
empties_some old s = let d = drops_some old (λ u. u == s) old.owners in (d.0, record { drops = d.1.0; owners = d.1.1 })

frees_some : (old : State) (ps : List PlaceValue) → (new : State) × Frees old ps new
frees_some old ps =
    let held = made_without nat_cmp-IsAntisymmetric old.held (any_covers ps) in
    let bytes = made_without nat_cmp-IsAntisymmetric old.bytes (any_has ps) in (
      record { regions = old.regions; held = held.0; bytes = bytes.0; owners = old.owners; pools = old.pools },
      record { regions = refl; held = held.1; bytes = bytes.1; owners = refl; pools = refl },
    )

-- a reply and a state that a relation allows
abbrev pub Some2 : (Reply → State → Type 0) → Type 0
Some2 P = (reply : Reply) × ((new : State) × P reply new)

abends_some : (old : State) (t : Name) (code : Code) → Some2 (Abends old t code)
abends_some old t code = let e = end_some old t in (Abended code e.1.fallen, (e.0, (e.1, refl)))

refuses_some : (old : State) (answer : Reply) → Some2 (Refuses old answer)
refuses_some old answer = (answer, (old, (refl, refl)))

fails_some : (b : Bool) (old : State) (t : Name) (code : Code) → Some2 (Fails b old t code)
fails_some true old t code = refuses_some old Rc4
fails_some false old t code = abends_some old t code

-- by cases on a test
either_some : {P Q : Reply → State → Type 0} (b : Bool) → (b ≡ true → Some2 P) → (b ≡ false → Some2 Q) → Some2 (λ reply new. MatchBool b (P reply new) (Q reply new))
either_some true p q = p refl
either_some false p q = q refl

round8_whole : (n : ℕ) → round8 n % 8 ≡ 0
round8_whole n = omega arith

round8_rises : (m n : ℕ) → m ≤ n → round8 m ≤ round8 n
round8_rises m n l = omega arith

part_whole : (size count : ℕ) → part_length size count % 8 ≡ 0
part_whole size count = grind (arith, nat_tests)

-- a grant, or shortage
area_some : (old : State) (t : Name) (number : ℕ) (want : WantValue) → want.least % 8 ≡ 0 → want.least ≤ want.most → ShortOf old t number want ⊎ ((p : PlaceValue) × (new : State) × GrantTo old t number want p new)
area_some old t number want even ordered =
    let s = subpool_some old.owners t number in
    elim (chosen_or_none old.regions (holder old) s.0 want even ordered) [
      | inl c ↦ let g = granted_some old t number want s.0 c.0 s.1 c.1 in inr (c.0, g.0, g.1)
      | inr none ↦ inl (s.0, s.1, none)
    ]

obtain_some : (old : State) (t : Name) (form : Form) (number : ℕ) (want : WantValue) → want.least % 8 ≡ 0 → want.least ≤ want.most → Some2 (ObtainStep old t form number want)
obtain_some old t form number want even ordered = either_some (is_invalid number) (λ _. abends_some old t (bad_subpool (family form) true)) (λ _. choice) where
  choice : Some2 (λ reply new. (ShortOf old (effective_task old.owners t number) number want × Fails (is_conditional form) old t (short (family form)) reply new) ⊎ ((p : PlaceValue) × (reply ≡ Obtained p) × GrantTo old (effective_task old.owners t number) number want p new))
  choice = elim (area_some old (effective_task old.owners t number) number want even ordered) [
    | inl short_of ↦ let f = fails_some (is_conditional form) old t (short (family form)) in (f.0, (f.1.0, inl (short_of, f.1.1)))
    | inr g ↦ (Obtained g.0, (g.1, inr (g.0, refl, g.2)))
  ]

list_some : (t : Name) (number start : ℕ) (lengths : List ℕ) (old : State) → ListShort old t number (map (λ n. fixed_want n start Below) lengths) ⊎ ((ps : List PlaceValue) × (new : State) × ListGrant old t number (map (λ n. fixed_want n start Below) lengths) ps new)
list_some t number start [] old = inr ([], old, refl)
list_some t number start (n ∷ ns) old =
    elim (area_some old t number (fixed_want n start Below) (round8_whole n) (omega arith)) [
      | inl short_of ↦ inl (inl short_of)
      | inr g ↦ elim (list_some t number start ns g.1) [
        | inl s ↦ inl (inr (g.0, g.1, g.2, s))
        | inr r ↦ inr (g.0 ∷ r.0, r.1, (g.1, g.2, r.2))
      ]
    ]

obtain_list_some : (old : State) (t : Name) (form : Form) (number start : ℕ) (lengths : List ℕ) → Some2 (ObtainListStep old t form number (map (λ n. fixed_want n start Below) lengths))
obtain_list_some old t form number start lengths = either_some (is_invalid number) (λ _. abends_some old t (bad_subpool (family form) true)) (λ _. choice) where
  choice : Some2 (λ reply new. (ListShort old (effective_task old.owners t number) number (map (λ n. fixed_want n start Below) lengths) × Fails (is_conditional form) old t (short (family form)) reply new) ⊎ ((ps : List PlaceValue) × (reply ≡ Listed ps) × ListGrant old (effective_task old.owners t number) number (map (λ n. fixed_want n start Below) lengths) ps new))
  choice = elim (list_some (effective_task old.owners t number) number start lengths old) [
    | inl s ↦ let f = fails_some (is_conditional form) old t (short (family form)) in (f.0, (f.1.0, inl (s, f.1.1)))
    | inr g ↦ (Listed g.0, (g.1, inr (g.0, refl, g.2)))
  ]

pub decided_false : (b : Bool) → Decided (b ≡ false)
decided_false b = grind (arith, nat_tests)

decided_may_release : (st : State) (o : Option ℕ) (ps : List PlaceValue) → Decided (MayRelease st o ps)
decided_may_release st None ps = inr (λ h. h)
decided_may_release st (Some s) ps = decided_and (decided_each (HeldPlain st s) (decided_held st s) ps) (decided_disjoint ps)

release_some : (old : State) (t : Name) (form : Form) (number : ℕ) (ps : List PlaceValue) → Some2 (ReleaseStep old t form number ps)
release_some old t form number ps =
    either_some (is_invalid number) (λ _. abends_some old t (bad_subpool (family form) false)) (λ _. either_some (not (list_all on_doubleword ps)) (λ _. abends_some old t (bad_address (family form))) (λ _. choice)) where
      choice : Some2 (λ reply new. ((MayRelease old (subpool_meant old.owners t number) (map whole ps) → ⊥) × Fails (is_conditional form) old t (not_held (family form)) reply new) ⊎ (MayRelease old (subpool_meant old.owners t number) (map whole ps) × (reply ≡ Rc0) × Frees old (map whole ps) new))
      choice = elim (decided_may_release old (subpool_meant old.owners t number) (map whole ps)) [
        | inl h ↦ let f = frees_some old (map whole ps) in (Rc0, (f.0, inr (h, refl, f.1)))
        | inr n ↦ let f = fails_some (is_conditional form) old t (not_held (family form)) in (f.0, (f.1.0, inl (n, f.1.1)))
      ]

empties_entry_some : (old : State) (o : Option ℕ) → (new : State) × EmptiesEntry old o new
empties_entry_some old None = (old, refl)
empties_entry_some old (Some s) = empties_some old s

release_whole_some : (old : State) (t : Name) (form : Form) (number : ℕ) → Some2 (ReleaseWholeStep old t form number)
release_whole_some old t form number =
    either_some (is_invalid number) (λ _. abends_some old t (bad_subpool (family form) false))
    (λ _. either_some (number == 0) (λ _. abends_some old t (User 4006)) (λ _. let e = empties_entry_some old (subpool_meant old.owners t number) in (Rc0, (e.0, (refl, e.1)))))

extends_some : (old : State) (name : Name) (pool : Pool) (count : ℕ) (p : PlaceValue) (owners : Owners) → Chosen old.regions (holder old) pool.subpool (part_want pool.cell_size count pool.side) p → (new : State) × Extends old name pool count p owners new
extends_some old name pool count p owners c =
    let held = made_changes old.held (p.addr + p.len) (covers p) (pooled pool.subpool) (covers_low p) in (
      record { regions = old.regions; held = held.0; bytes = old.bytes; owners = owners; pools = insert old.pools name (with_part pool count p) },
      record { chosen = c; regions = refl; held = held.1; bytes = refl; owners_are = refl; pools = made_at old.pools name (with_part pool count p) },
    )

takes_some : (old : State) (name : Name) (pool : Pool) (c : ℕ) → (new : State) × TakesCell old name pool c new
takes_some old name pool c =
    let bytes = made_changes old.bytes (c + pool.cell_size) (has_address (cell_at pool c)) old.regions.fill (λ a e. (has_is (cell_at pool c) a e).1) in (
      record { regions = old.regions; held = old.held; bytes = bytes.0; owners = old.owners; pools = insert old.pools name (record pool { taken = set.insert pool.taken c }) },
      record { regions = refl; held = refl; bytes = bytes.1; owners = refl; pools = made_at old.pools name (record pool { taken = set.insert pool.taken c }) },
    )

gives_some : (old : State) (name : Name) (pool : Pool) (c : ℕ) → (new : State) × GivesCell old name pool c new
gives_some old name pool c =
    let bytes = made_without nat_cmp-IsAntisymmetric old.bytes (has_address (cell_at pool c)) in (
      record { regions = old.regions; held = old.held; bytes = bytes.0; owners = old.owners; pools = insert old.pools name (record pool { taken = set.remove pool.taken c }) },
      record { regions = refl; held = refl; bytes = bytes.1; owners = refl; pools = made_at old.pools name (record pool { taken = set.remove pool.taken c }) },
    )

drops_pool_some : (old : State) (name : Name) (pool : Pool) → (new : State) × DropsPool old name pool new
drops_pool_some old name pool =
    let held = made_without nat_cmp-IsAntisymmetric old.held (in_parts pool) in
    let pools = made_gone old.pools name in
    let bytes = made_without nat_cmp-IsAntisymmetric old.bytes (in_taken pool) in (
      record { regions = old.regions; held = held.0; bytes = bytes.0; owners = old.owners; pools = pools.0 },
      record { regions = refl; held = held.1; bytes = bytes.1; owners = refl; pools = pools.1 },
    )

writes_some : (old : State) (p : PlaceValue) (value : ℕ → Option ℕ) → (new : State) × Writes old p value new
writes_some old p value =
    let bytes = made_values old.bytes (p.addr + p.len) (has_address p) value (λ a e. (has_is p a e).1) in (
      record { regions = old.regions; held = old.held; bytes = bytes.0; owners = old.owners; pools = old.pools },
      record { regions = refl; held = refl; bytes = bytes.1; owners = refl; pools = refl },
    )

-- a part for a pool, or shortage
part_some : (old : State) (s size count : ℕ) (side : Side) → ((p : PlaceValue) × Chosen old.regions (holder old) s (part_want size count side) p) ⊎ NoPlace old.regions (holder old) s (part_want size count side)
part_some old s size count side = chosen_or_none old.regions (holder old) s (part_want size count side) (part_whole size count) (omega arith)

build_some : (old : State) (t name : Name) (number : ℕ) (plan : Plan) → Some2 (BuildStep old t name number plan)
build_some old t name number plan =
    either_some (is_invalid number) (λ _. abends_some old t (bad_subpool Located true))
    (λ _. either_some (contains_key old.pools name) (λ _. abends_some old t (User 4008))
    (λ _. either_some (nat_le 64 (len old.pools)) (λ _. abends_some old t (User 4007)) (λ _. choice))) where
      choice : Some2 (λ reply new. (ShortOf old (effective_task old.owners t number) number (part_want plan.cell_size plan.primary plan.side) × Abends old t (short Located) reply new) ⊎ (Builds old (effective_task old.owners t number) name number plan new × (reply ≡ Rc0)))
      choice =
          let s = subpool_some old.owners (effective_task old.owners t number) number in
          elim (part_some old s.0 plan.cell_size plan.primary plan.side) [
            | inl c ↦ let o = enters_some old.owners (effective_task old.owners t number) number s.0 in let e = extends_some old name (new_pool s.0 plan) plan.primary c.0 o.0 c.1 in (Rc0, (e.0, inr ((s.0, s.1, (c.0, o.0, o.1, e.1)), refl)))
            | inr none ↦ let f = abends_some old t (short Located) in (f.0, (f.1.0, inl ((s.0, s.1, none), f.1.1)))
          ]

decided_taken : (pool : Pool) (c : ℕ) → Decided (set.contains pool.taken c ≡ false)
decided_taken pool c = decided_false (set.contains pool.taken c)

-- a cell of some parts that is not taken, or none
FreeIn : Pool → List Part → ℕ → Type 0
FreeIn pool parts c = ((part : Part) × Contains parts part × IsCellOf pool.cell_size part c) × (set.contains pool.taken c ≡ false)

free_in_part : (pool : Pool) (part : Part) → ((c : ℕ) × IsCellOf pool.cell_size part c × (set.contains pool.taken c ≡ false)) ⊎ ((c : ℕ) → IsCellOf pool.cell_size part c → set.contains pool.taken c ≡ false → ⊥)
free_in_part pool part =
    elim (decided_some (λ i. (i < part.count) × (set.contains pool.taken (first_cell pool.cell_size part + i * pool.cell_size) ≡ false))
    (λ i. decided_and (decided_lt i part.count) (decided_taken pool (first_cell pool.cell_size part + i * pool.cell_size))) part.count (λ i h. h.0)) [
      | inl f ↦ inl (first_cell pool.cell_size part + f.0 * pool.cell_size, (f.0, f.1.0, refl), f.1.1)
      | inr none ↦ inr (λ c is out. none (is.0, (is.1, ap (set.contains pool.taken) (sym is.2) ∙ out)))
    ]

free_in : (pool : Pool) (parts : List Part) → ((c : ℕ) × FreeIn pool parts c) ⊎ ((c : ℕ) → FreeIn pool parts c → ⊥)
unfolding FreeIn
free_in pool [] = inr (λ c h. let l : h.0.1.0 < 0 = h.0.1.1 in absurd (omega arith))
free_in pool (part ∷ parts) =
    elim (free_in_part pool part) [
      | inl f ↦ inl (f.0, ((part, (0, omega arith, refl), f.1), f.2))
      | inr none ↦ elim (free_in pool parts) [
        | inl f ↦ inl (f.0, ((f.1.0.0, later f.1.0.0 part parts f.1.0.1, f.1.0.2), f.1.1))
        | inr none_later ↦ inr (λ c h. elim (first_or_later h.0.0 part parts h.0.1) [ inl e ↦ none c (rw e h.0.2) h.1 | inr m ↦ none_later c ((h.0.0, m, h.0.2), h.1) ])
      ]
    ]

free_cell_or_none : (pool : Pool) → ((c : ℕ) × IsFreeCell pool c) ⊎ ((c : ℕ) → IsFreeCell pool c → ⊥)
unfolding FreeIn
free_cell_or_none pool = free_in pool pool.parts

gets_some : (old : State) (name : Name) (pool : Pool) (c : ℕ) → Some2 (Gets old name pool c)
gets_some old name pool c = let k = takes_some old name pool c in (Cell (cell_at pool c), (k.0, (k.1, refl)))

gets_none_some : (old : State) (t name : Name) (conditional : Bool) (pool : Pool) → 1 ≤ pool.secondary → Some2 (GetsNone old t name conditional pool)
gets_none_some old t name conditional pool counts = either_some conditional (λ _. refuses_some old NoCell) (λ _. choice) where
  choice : Some2 (λ reply new. (NoPlace old.regions (holder old) pool.subpool (part_want pool.cell_size pool.secondary pool.side) × Abends old t (short Located) reply new) ⊎ GetsMore old name pool reply new)
  choice = elim (part_some old pool.subpool pool.cell_size pool.secondary pool.side) [
    | inr none ↦ let f = abends_some old t (short Located) in (f.0, (f.1.0, inl (none, f.1.1)))
    | inl p ↦
        let e = extends_some old name pool pool.secondary p.0 old.owners p.1 in
        let part : Part = record { place = p.0; count = pool.secondary } in
        let c = first_cell pool.cell_size part + 0 * pool.cell_size in
        let g = gets_some e.0 name (with_part pool pool.secondary p.0) c in
        (g.0, (g.1.0, inr (p.0, e.0, e.1, (c, (0, counts, refl), g.1.1))))
  ]

get_some : (old : State) (t name : Name) (conditional : Bool) (o : Option Pool) → ((pool : Pool) → o ≡ Some pool → 1 ≤ pool.secondary) → Some2 (GetStep old t name conditional o)
get_some old t name conditional None counts = abends_some old t (User 4002)
get_some old t name conditional (Some pool) counts =
    elim (free_cell_or_none pool) [
      | inl f ↦ let g = gets_some old name pool f.0 in (g.0, (g.1.0, inl (f.0, f.1, g.1.1)))
      | inr none ↦ let g = gets_none_some old t name conditional pool (counts pool refl) in (g.0, (g.1.0, inr (none, g.1.1)))
    ]

free_some : (old : State) (t name : Name) (c : ℕ) (o : Option Pool) → Some2 (FreeStep old t name c o)
free_some old t name c None = abends_some old t (User 4002)
free_some old t name c (Some pool) = either_some (not (set.contains pool.taken c)) (λ _. abends_some old t (User 4001)) (λ _. let g = gives_some old name pool c in (Rc0, (g.0, (refl, g.1))))

delete_some : (old : State) (t name : Name) (o : Option Pool) → Some2 (DeleteStep old t name o)
delete_some old t name None = abends_some old t (User 4002)
delete_some old t name (Some pool) = let d = drops_pool_some old name pool in (Rc0, (d.0, (refl, d.1)))

attach_case_some : (old : State) (t name : Name) (gifts : GiftsValue) (residence : Residence) (refusal : Option Code) → Some2 (AttachCase old t name gifts residence refusal)
attach_case_some old t name gifts residence (Some code) = abends_some old t code
attach_case_some old t name gifts residence None =
    let o = attach_some old.owners t name gifts residence in
    (Attached, (record { regions = old.regions; held = old.held; bytes = old.bytes; owners = o.0; pools = old.pools }, (refl, record { regions = refl; held = refl; bytes = refl; owners = o.1; pools = refl })))

return_some : (old : State) (t : Name) → Some2 (ReturnStep old t)
return_some old t = either_some (has_subtask old.owners t) (λ _. abends_some old t (System 0xA03)) (λ _. let e = end_some old t in (Ended, (e.0, (refl, e.1))))

access_some : (old : State) (t : Name) (allowed : Bool) (done : State → Type 0) → ((new : State) × done new) → Some2 (λ reply new. Accesses old t allowed (done new) reply new)
access_some old t allowed done d = either_some (not allowed) (λ _. abends_some old t (System 0x0C4)) (λ _. (Done, (d.0, (refl, d.1))))

acts_some : (old : State) (t : Name) (request : Request) → PoolsSized old → IsRequest request → Some2 (Acts old t request)
acts_some old t (Obtain form number ask) w r = obtain_some old t form number (want_of ask (side_for old t form ask.loc)) (round8_whole ask.least) (round8_rises ask.least ask.most r.ordered)
acts_some old t (ObtainList form number lengths start) w r = obtain_list_some old t form number start lengths
acts_some old t (Release form number p) w r = release_some old t form number (p ∷ [])
acts_some old t (ReleaseList form number ps) w r = release_some old t form number ps
acts_some old t (ReleaseWhole form number) w r = release_whole_some old t form number
acts_some old t (Build name number size primary secondary loc) w r = build_some old t name number _
acts_some old t (Get name conditional) w r = get_some old t name conditional (get old.pools name) (λ pool e. (w name pool e).secondary)
acts_some old t (Free name c) w r = free_some old t name c (get old.pools name)
acts_some old t (Delete name) w r = delete_some old t name (get old.pools name)
acts_some old t (Attach name gifts residence) w r = attach_case_some old t name gifts residence (attach_refusal old.owners t name gifts)
acts_some old t Return w r = return_some old t
acts_some old t (Abend n) w r = abends_some old t (User n)
acts_some old t (Show a n) w r = access_some old t (all_granted old (place_at a n)) (λ new. new ≡ old) (old, refl)
acts_some old t (Put a bytes) w r = access_some old t (all_granted old (place_at a (length bytes))) (Writes old (place_at a (length bytes)) (bytes_from a bytes)) (writes_some old (place_at a (length bytes)) (bytes_from a bytes))
acts_some old t (Move to from n) w r = access_some old t (all_granted old (place_at to n) && all_granted old (place_at from n)) (Writes old (place_at to n) (moved_from old to from)) (writes_some old (place_at to n) (moved_from old to from))

-- Each request has a reply and a new state, where each pool has some cells in a part.
pub step_some : (old : State) (t : Name) (request : Request) → PoolsSized old → IsRequest request → Some2 (Step old t request)
step_some old t request w r =
    let s : Some2 (StepCase old t request) = either_some (not (is_active old.owners t)) (λ _. refuses_some old NotRun) (λ _. acts_some old t request w r) in
    (s.0, (s.1.0, cases_step old t request s.0 s.1.0 r s.1.1))
