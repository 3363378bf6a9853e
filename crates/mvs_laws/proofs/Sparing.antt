-- A byte stays where nothing writes or releases it.
use Rattle.std.proofs.Common.{◌≡◌, ◌≢◌, ℕ, ◌+◌, ◌/◌, ◌≤◌, ◌⊎◌, inl, inr, Bool, true, false, cond, List, [], ◌∷◌, map, length, Option, Some, None, refl, sym, ap, ◌∙◌, subst, arith, is_some, not, nat_le, ◌||◌, ◌==◌, MatchBool, Contains}
use Rattle.std.proofs.lemmas.Bool.Decides.{nat_tests}
use Rattle.std.specs.List.{list_all}
use Rattle.std.specs.FinMap.{get, contains_key, len}
use Rattle.std.specs.FinSet as set
use Rattle.std.proofs.lemmas.Bool.{or_right, false_from_ne_true, or_cases, both_ways}
use Rattle.std.proofs.lemmas.Grind.{common_steps}
use Rattle.mvs_laws.proofs.Types.{Name, Code, Form, Line, Statement, SourceRequest, Request, Obtain, ObtainList, Release, ReleaseList, ReleaseWhole, Build, Get, Free, Delete, Attach, Return, Abend, Show, Put, Move, Reply, Residence, Below}
use Rattle.mvs_model.proofs.StepCases.{step_cases}
use Rattle.mvs_model.specs.declared.line.Line.TheVariants as line
use Rattle.mvs_model.specs.declared.line.Statement.TheVariants as says
use Rattle.mvs_model.specs.Gifts.{GiftsValue}
use Rattle.mvs_model.specs.Finite.{has, kept}
use Rattle.mvs_model.specs.Place.{PlaceValue, place_at}
use Rattle.mvs_model.specs.Want.{WantValue, want_of, fixed_want, side_of}
use Rattle.mvs_model.specs.Storage.{Chosen, Covers, has_address}
use Rattle.mvs_model.specs.Owners.{Task, is_active, effective_task, subpool_meant, is_among_ended, ends_with, has_subtask}
use Rattle.mvs_model.proofs.ByCase.{attach_refusal}
use Rattle.mvs_model.specs.Pools.{Pool, Part, IsCell, IsCellOf, cell_at, in_taken, part_length}
use Rattle.mvs_model.specs.State.{State, Holding, pooled, holder, is_plain, in_cell, granted, subpool_in}
use Rattle.mvs_model.specs.Changes.{GrantTo, ListGrant, Drops, End, Extends, Frees, TakesCell, Writes, any_has, with_part}
use Rattle.mvs_model.specs.Requests.{Plan, is_invalid, side_for, residence_of, whole, on_doubleword, EmptiesEntry, all_granted}
use Rattle.mvs_model.specs.Consequences.{Abends}
use Rattle.mvs_model.proofs.ByCase.{Fails, ObtainStep, MayRelease, ReleaseStep, ReleaseWholeStep, BuildStep, GetStep, FreeStep, DeleteStep, AttachCase, ReturnStep, Accesses, Acts}
use Rattle.mvs_model.specs.WellFormed.{Apart}
use Rattle.mvs_model.specs.Job.{JobValue}
use Rattle.mvs_model.specs.Reading.{LineOf}
use Rattle.mvs_model.specs.Resolving.{resolved}
use Rattle.mvs_model.specs.Answers.{Answer, Event}
use Rattle.mvs_model.specs.Walk.{Serves}
use Rattle.mvs_model.specs.Runs.{Asks, AnswersTo, Does, Any, machine}
use Rattle.mvs_laws.specs.LeavesUntouched.{LeavesUntouched, OwnerStays, StatementSpares, LineSpares, RunsSparing, BytesStay}
use Rattle.mvs_laws.proofs.Going.{line_keeps, running_keeps, start_sized}
use Rattle.mvs_laws.proofs.Walking.{served_in}
use Rattle.mvs_laws.proofs.PartsApart.{StaysApart, apart_closed, start_apart}
use Rattle.mvs_model.proofs.CellPlaces.{has_is, whole_has, cell_inside, one_cell}
use Rattle.mvs_model.proofs.Orders.{same_name_is}
use Rattle.mvs_model.proofs.PartsFewer.{chosen_whole, chosen_free, grant_apart}
use Rattle.mvs_model.proofs.PartsFreed.{kept_from}
use Rattle.mvs_model.proofs.StorageLaws.{covers_from}
use Rattle.mvs_model.proofs.TakenCells.{InCell, in_cell_is, in_cell_from, one_part, one_pool, cell_part, cell_pooled}
use Rattle.mvs_model.proofs.Tests.{by_test}

-- ---- a byte that may be read, and what each change does to it

-- a doubleword that is held outside the pools is held
plain_held : (o : Option Holding) → is_plain o ≡ true → (h : Holding) × (o ≡ Some h)
plain_held o h1 = grind (arith, nat_tests)

module _ (old : State) (apart : Apart old) (a b : ℕ) (is : get old.bytes a ≡ Some b) where
  -- it is held outside the pools, or lies in a taken cell
  where_held : (is_plain (get old.held (a / 8)) ≡ true) ⊎ InCell old a
  where_held = elim (or_cases (is_plain (get old.held (a / 8))) (in_cell old a) (sym (apart.bytes a) ∙ ap is_some is)) [ inl e ↦ inl e | inr e ↦ inr (in_cell_is old a e) ]

  held_by : (h : Holding) × (get old.held (a / 8) ≡ Some h)
  held_by = elim where_held [ inl e ↦ plain_held (get old.held (a / 8)) e | inr i ↦ (pooled i.pool.subpool, cell_pooled old apart a i) ]

  not_free : get old.held (a / 8) ≡ None → ⊥
  not_free e = let f : Some held_by.0 ≡ None = sym held_by.1 ∙ e in absurd (cc)

  -- a change elsewhere
  elsewhere : (new : State) (test : Bool) (v : Option ℕ) → get new.bytes a ≡ cond test v (get old.bytes a) → (test ≡ true → ⊥) → get new.bytes a ≡ Some b
  elsewhere new test v e none = grind (arith, nat_tests)

  -- what is granted was free
  out_of_chosen : (s : ℕ) (want : WantValue) (p : PlaceValue) → Chosen old.regions (holder old) s want p → has_address p a ≡ true → ⊥
  out_of_chosen s want p c e = not_free (chosen_free old s want p (a / 8) c (sym (whole_has p a (chosen_whole old s want p c)) ∙ e))

  grant_spares : (t : Name) (number : ℕ) (want : WantValue) (p : PlaceValue) (new : State) → GrantTo old t number want p new → get new.bytes a ≡ Some b
  grant_spares t number want p new g = elsewhere new (has_address p a) _ (g.bytes a) (out_of_chosen g.subpool want p g.chosen)

  -- what some subpools hold goes, and not what holds it
  drops_spare : (test : ℕ → Bool) (new : State) → Drops old test new → ((s : ℕ) → holder old (a / 8) ≡ Some s → test s ≡ false) → get new.bytes a ≡ Some b
  drops_spare test new g out = g.bytes a ∙ kept_from (λ _. granted new a) (get old.bytes a) b is still where
    out_of : (h : Holding) → get old.held (a / 8) ≡ Some h → not (test h.subpool) ≡ true
    out_of h e = ap not (out h.subpool (ap subpool_in e))

    still : granted new a ≡ true
    still = elim where_held [
      | inl e ↦
          let h = plain_held (get old.held (a / 8)) e in
          let same : get new.held (a / 8) ≡ get old.held (a / 8) = g.held (a / 8) ∙ kept_from (λ k. not (test k.subpool)) (get old.held (a / 8)) h.0 h.1 (out_of h.0 h.1) ∙ sym h.1 in
          ap (λ t. t || in_cell new a) (ap is_plain same ∙ e)
      | inr i ↦ or_right (is_plain (get new.held (a / 8))) (in_cell new a) (in_cell_from new a (record {
        name = i.name;
        pool = i.pool;
        first = i.first;
        is_pool = g.pools i.name ∙ kept_from (λ p. not (test p.subpool)) (get old.pools i.name) i.pool i.is_pool (out_of (pooled i.pool.subpool) (cell_pooled old apart a i));
        taken = i.taken;
        inside = i.inside;
      }))
    ]

  -- a task ends that does not own what holds it
  end_spares : (t : Name) (new : State) → End old t new → OwnerStays old a new → get new.bytes a ≡ Some b
  end_spares t new e stays = drops_spare (ends_with old.owners t e.fallen) new e.drops (λ s h. at s h (get old.owners.owner s) refl) where
    inactive : (u : Name) → is_among_ended t e.fallen u ≡ true → is_active new.owners u ≡ false
    inactive u f = ap is_some (e.owners.tasks u) ∙ gone (get old.owners.tasks u) where
      gone : (o : Option Task) → is_some (kept (λ _. not (is_among_ended t e.fallen u)) o) ≡ false
      gone None = refl
      gone (Some x) = ap (λ c. is_some (cond (not c) (Some x) None)) f

    at : (s : ℕ) → holder old (a / 8) ≡ Some s → (o : Option Name) → get old.owners.owner s ≡ o → has (is_among_ended t e.fallen) o ≡ false
    at s h None f = refl
    at s h (Some u) f = false_from_ne_true (is_among_ended t e.fallen u) (λ g. let k : true ≡ false = sym (stays s u h f) ∙ inactive u g in absurd (cc))

  -- a cell is taken that was free
  out_of_part : (pool : Pool) (part : Part) (c : ℕ) → part.place.len ≡ part_length pool.cell_size part.count → IsCellOf pool.cell_size part c → has_address (cell_at pool c) a ≡ true → Covers part.place (a / 8)
  out_of_part pool part c long cell e = let h = has_is (cell_at pool c) a e in cell_inside pool.cell_size part c a long cell h.0 h.1

  take_spares : (name : Name) (pool : Pool) (c : ℕ) (new : State) → get old.pools name ≡ Some pool → IsCell pool c → set.contains pool.taken c ≡ false → TakesCell old name pool c new → get new.bytes a ≡ Some b
  take_spares name pool c new there cell free g = elsewhere new (has_address (cell_at pool c) a) _ (g.bytes a) (λ e. overlap e where_held) where
    overlap : has_address (cell_at pool c) a ≡ true → (is_plain (get old.held (a / 8)) ≡ true) ⊎ InCell old a → ⊥
    overlap e held =
        let part = cell.0 in
        let is_part = apart.parts name pool part there cell.1 in
        let covered = out_of_part pool part c is_part.length cell.2 e in
        elim held [
          | inl p ↦ let k : true ≡ false = sym p ∙ ap is_plain (is_part.held (a / 8) covered) in absurd (cc)
          | inr i ↦
              let other = cell_part old apart i.name i.pool i.first a i.is_pool i.taken i.inside in
              let same_name : i.name ≡ name = same_name_is i.name name (one_pool old apart i.name name i.pool pool other.part part (a / 8) i.is_pool there other.is_part cell.1 other.covered covered) in
              let same : i.pool ≡ pool = (let k : Some i.pool ≡ Some pool = sym i.is_pool ∙ ap (get old.pools) same_name ∙ there in cc) in
              let same_part : other.part ≡ part = one_part pool.parts other.part part (a / 8) (apart.within name pool there) (subst (λ q. Contains q.parts other.part) same other.is_part) cell.1 other.covered covered in
              let one = has_is (cell_at pool i.first) a (ap (λ q. has_address (cell_at q i.first) a) (sym same) ∙ i.inside) in
              let h = has_is (cell_at pool c) a e in
              let is_cell : IsCellOf pool.cell_size part i.first = subst (λ r. IsCellOf pool.cell_size r i.first) same_part (subst (λ q. IsCellOf q.cell_size other.part i.first) same other.is_cell) in
              let first : i.first ≡ c = one_cell pool.cell_size part i.first c a is_cell cell.2 one.0 one.1 h.0 h.1 in
              let k : true ≡ false = sym i.taken ∙ ap (λ q. set.contains q.taken i.first) same ∙ ap (set.contains pool.taken) first ∙ free in
              absurd (cc)
        ]

  -- a cell of a further part is taken
  more_spares : (name : Name) (pool : Pool) (p : PlaceValue) (mid : State) (c : ℕ) (new : State) → Extends old name pool pool.secondary p old.owners mid → IsCellOf pool.cell_size (record { place = p; count = pool.secondary }) c
      → TakesCell mid name (with_part pool pool.secondary p) c new → get new.bytes a ≡ Some b
  more_spares name pool p mid c new x cell g =
      elsewhere new (has_address (cell_at pool c) a) _ (g.bytes a ∙ ap (λ m. cond (has_address (cell_at pool c) a) (Some mid.regions.fill) (get m a)) x.bytes)
      (λ e. let long : p.len ≡ part_length pool.cell_size pool.secondary = (let low : part_length pool.cell_size pool.secondary ≤ p.len = x.chosen.length.least in let high : p.len ≤ part_length pool.cell_size pool.secondary = x.chosen.length.most in omega (arith, low, high)) in
      let covered = out_of_part pool (record { place = p; count = pool.secondary }) c long cell e in
      not_free (chosen_free old pool.subpool _ p (a / 8) x.chosen (covers_from p (a / 8) covered)))

  -- ---- each request

  abends : (t : Name) (code : Code) (reply : Reply) (new : State) → Abends old t code reply new → OwnerStays old a new → get new.bytes a ≡ Some b
  abends t code reply new h stays = end_spares t new h.0 stays

  same : (new : State) → new ≡ old → get new.bytes a ≡ Some b
  same new e = ap (λ st. get st.bytes a) e ∙ is

  fails : (conditional : Bool) (t : Name) (code : Code) (reply : Reply) (new : State) → Fails conditional old t code reply new → OwnerStays old a new → get new.bytes a ≡ Some b
  fails true t code reply new h stays = same new h.1
  fails false t code reply new h stays = end_spares t new h.0 stays

  obtains : (t : Name) (form : Form) (number : ℕ) (want : WantValue) (reply : Reply) (new : State) → ObtainStep old t form number want reply new → OwnerStays old a new → get new.bytes a ≡ Some b
  obtains t form number want reply new h stays =
      by_test (is_invalid number) h (λ _ k. abends t _ reply new k stays)
      (λ _ k. elim k [ inl f ↦ fails _ t _ reply new f.1 stays | inr g ↦ grant_spares (effective_task old.owners t number) number want g.0 new g.2 ])

  frees : (o : Option ℕ) (ps : List PlaceValue) (new : State) → any_has ps a ≡ false → MayRelease old o ps → Frees old ps new → get new.bytes a ≡ Some b
  frees o ps new out m f = elsewhere new (any_has ps a) None (f.bytes a) (both_ways (any_has ps a) out)

  releases : (t : Name) (form : Form) (number : ℕ) (ps : List PlaceValue) (reply : Reply) (new : State) → any_has (map whole ps) a ≡ false → ReleaseStep old t form number ps reply new → OwnerStays old a new → get new.bytes a ≡ Some b
  releases t form number ps reply new out h stays =
      by_test (is_invalid number) h (λ _ k. abends t _ reply new k stays)
      (λ _ k. by_test (not (list_all on_doubleword ps)) k (λ _ k. abends t _ reply new k stays)
      (λ _ m. elim m [ inl f ↦ fails _ t _ reply new f.1 stays | inr g ↦ frees (subpool_meant old.owners t number) (map whole ps) new out g.0 g.2 ]))

  empties : (o : Option ℕ) (new : State) → o ≢ holder old (a / 8) → EmptiesEntry old o new → get new.bytes a ≡ Some b
  empties None new out h = same new h
  empties (Some s) new out h = drops_spare (λ u. u == s) new h.drops (λ u e. false_from_ne_true (u == s) (λ k. out (ap (λ v. Some v) (let f : s ≡ u = grind (arith, nat_tests) in f) ∙ sym e)))

  releases_whole : (t : Name) (form : Form) (number : ℕ) (reply : Reply) (new : State) → subpool_meant old.owners t number ≢ holder old (a / 8) → ReleaseWholeStep old t form number reply new → OwnerStays old a new → get new.bytes a ≡ Some b
  releases_whole t form number reply new out h stays =
      by_test (is_invalid number) h (λ _ k. abends t _ reply new k stays)
      (λ _ k. by_test (number == 0) k (λ _ k. abends t _ reply new k stays) (λ _ e. empties (subpool_meant old.owners t number) new out e.1))

  builds : (t name : Name) (number : ℕ) (plan : Plan) (reply : Reply) (new : State) → BuildStep old t name number plan reply new → OwnerStays old a new → get new.bytes a ≡ Some b
  builds t name number plan reply new h stays =
      by_test (is_invalid number) h (λ _ k. abends t _ reply new k stays)
      (λ _ k. by_test (contains_key old.pools name) k (λ _ k. abends t _ reply new k stays)
      (λ _ l. by_test (nat_le 64 (len old.pools)) l (λ _ k. abends t _ reply new k stays)
      (λ _ m. elim m [ inl f ↦ abends t _ reply new f.1 stays | inr g ↦ ap (λ m. get m a) g.0.2.3.bytes ∙ is ])))

  gets : (o : Option Pool) (t name : Name) (conditional : Bool) (reply : Reply) (new : State) → get old.pools name ≡ o → GetStep old t name conditional o reply new → OwnerStays old a new → get new.bytes a ≡ Some b
  gets None t name conditional reply new e h stays = abends t _ reply new h stays
  gets (Some pool) t name conditional reply new e (inl g) stays = take_spares name pool g.0 new e g.1.0 g.1.1 g.2.0
  gets (Some pool) t name conditional reply new e (inr f) stays =
      by_test conditional f.1 (λ _ r. same new r.1)
      (λ _ m. elim m [ inl k ↦ abends t _ reply new k.1 stays | inr g ↦ more_spares name pool g.0 g.1 g.3.0 new g.2 g.3.1 g.3.2.0 ])

  frees_cell : (o : Option Pool) (t name : Name) (c : ℕ) (reply : Reply) (new : State) → ((pool : Pool) → o ≡ Some pool → has_address (cell_at pool c) a ≡ false) → FreeStep old t name c o reply new → OwnerStays old a new → get new.bytes a ≡ Some b
  frees_cell None t name c reply new out h stays = abends t _ reply new h stays
  frees_cell (Some pool) t name c reply new out h stays =
      by_test (not (set.contains pool.taken c)) h (λ _ k. abends t _ reply new k stays)
      (λ _ g. elsewhere new (has_address (cell_at pool c) a) None (g.1.bytes a) (both_ways (has_address (cell_at pool c) a) (out pool refl)))

  deletes : (o : Option Pool) (t name : Name) (reply : Reply) (new : State) → ((pool : Pool) → o ≡ Some pool → in_taken pool a ≡ false) → DeleteStep old t name o reply new → OwnerStays old a new → get new.bytes a ≡ Some b
  deletes None t name reply new out h stays = abends t _ reply new h stays
  deletes (Some pool) t name reply new out h stays = elsewhere new (in_taken pool a) None (h.1.bytes a) (both_ways (in_taken pool a) (out pool refl))

  attaches : (o : Option Code) (t name : Name) (gifts : GiftsValue) (residence : Residence) (reply : Reply) (new : State) → AttachCase old t name gifts residence o reply new → OwnerStays old a new → get new.bytes a ≡ Some b
  attaches (Some code) t name gifts residence reply new h stays = abends t code reply new h stays
  attaches None t name gifts residence reply new h stays = ap (λ m. get m a) h.1.bytes ∙ is

  returns : (t : Name) (reply : Reply) (new : State) → ReturnStep old t reply new → OwnerStays old a new → get new.bytes a ≡ Some b
  returns t reply new h stays = by_test (has_subtask old.owners t) h (λ _ k. abends t _ reply new k stays) (λ _ e. end_spares t new e.1 stays)

  writes : (t : Name) (allowed : Bool) (p : PlaceValue) (value : ℕ → Option ℕ) (reply : Reply) (new : State) → has_address p a ≡ false → Accesses old t allowed (Writes old p value new) reply new → OwnerStays old a new → get new.bytes a ≡ Some b
  writes t allowed p value reply new out h stays =
      by_test (not allowed) h (λ _ k. abends t _ reply new k stays) (λ _ w. elsewhere new (has_address p a) (value a) (w.1.bytes a) (both_ways (has_address p a) out))

-- grants of a list, one after another
list_spares : (t : Name) (number : ℕ) (wants : List WantValue) (ps : List PlaceValue) (old new : State) (a b : ℕ) → Apart old → get old.bytes a ≡ Some b → ListGrant old t number wants ps new → get new.bytes a ≡ Some b
list_spares t number [] [] old new a b apart is h = ap (λ st. get st.bytes a) h ∙ is
list_spares t number [] (p ∷ ps) old new a b apart is h = absurd h
list_spares t number (want ∷ wants) [] old new a b apart is h = absurd h
list_spares t number (want ∷ wants) (p ∷ ps) old new a b apart is h = grind (arith, nat_tests, grant_spares, grant_apart, list_spares t number wants ps h.0 new a b (grant_apart old h.0 t number want p h.1 apart) (grant_spares old apart a b is t number want p h.0 h.1) h.2)

acts : (old : State) (t : Name) (request : Request) (reply : Reply) (new : State) (a b : ℕ) → Apart old → get old.bytes a ≡ Some b → LeavesUntouched old t a request → OwnerStays old a new → Acts old t request reply new → get new.bytes a ≡ Some b
acts old t (Obtain form number ask) reply new a b apart is out stays h = obtains old apart a b is t form number (want_of ask (side_for old t form ask.loc)) reply new h stays
acts old t (ObtainList form number lengths start) reply new a b apart is out stays h =
    by_test (is_invalid number) h (λ _ k. abends old apart a b is t _ reply new k stays)
    (λ _ k. elim k [
      | inl f ↦ fails old apart a b is _ t _ reply new f.1 stays
      | inr g ↦ list_spares (effective_task old.owners t number) number (map (λ n. fixed_want n start Below) lengths) g.0 old new a b apart is g.2
    ])
acts old t (Release form number p) reply new a b apart is out stays h = releases old apart a b is t form number (p ∷ []) reply new (ap (λ c. c || false) out) h stays
acts old t (ReleaseList form number ps) reply new a b apart is out stays h = releases old apart a b is t form number ps reply new out h stays
acts old t (ReleaseWhole form number) reply new a b apart is out stays h = releases_whole old apart a b is t form number reply new out h stays
acts old t (Build name number size primary secondary loc) reply new a b apart is out stays h =
    builds old apart a b is t name number (record { cell_size = size; primary = primary; secondary = secondary; side = side_of loc (residence_of old.owners t) }) reply new h stays
acts old t (Get name conditional) reply new a b apart is out stays h = gets old apart a b is (get old.pools name) t name conditional reply new refl h stays
acts old t (Free name c) reply new a b apart is out stays h = frees_cell old apart a b is (get old.pools name) t name c reply new out h stays
acts old t (Delete name) reply new a b apart is out stays h = deletes old apart a b is (get old.pools name) t name reply new out h stays
acts old t (Attach name gifts residence) reply new a b apart is out stays h = attaches old apart a b is (attach_refusal old.owners t name gifts) t name gifts residence reply new h stays
acts old t Return reply new a b apart is out stays h = returns old apart a b is t reply new h stays
acts old t (Abend n) reply new a b apart is out stays h = abends old apart a b is t _ reply new h stays
acts old t (Show at n) reply new a b apart is out stays h =
    by_test (not (all_granted old (place_at at n))) h (λ _ k. abends old apart a b is t _ reply new k stays) (λ _ d. same old apart a b is new d.1)
acts old t (Put to bytes) reply new a b apart is out stays h = writes old apart a b is t _ (place_at to (length bytes)) _ reply new out h stays
acts old t (Move to from n) reply new a b apart is out stays h = writes old apart a b is t _ (place_at to n) _ reply new out h stays

-- ---- lines

active_or_not : {P Q R : Type 0} (c : Bool) → MatchBool (not c) P Q → (P → R) → (c ≡ true → Q → R) → R
active_or_not c h1 h2 h3 = grind (arith, common_steps)

module _ (a b : ℕ) where
  asks_spare : (old : JobValue) (t : Name) (w : SourceRequest) (o : Option Request) (answer : Answer) (new : JobValue) → Apart old.state → get old.state.bytes a ≡ Some b
      → is_active old.state.owners t ≡ true → ((request : Request) → o ≡ Some request → LeavesUntouched old.state t a request × OwnerStays old.state a new.state) → Asks Any old t w o answer new → get new.state.bytes a ≡ Some b
  asks_spare old t w None answer new apart is active out h = ap (λ job. get job.state.bytes a) h.1 ∙ is
  asks_spare old t w (Some request) answer new apart is active out h =
      let k = out request refl in
      active_or_not (is_active old.state.owners t) (step_cases old.state t request h.reply new.state h.step) (λ n. ap (λ st. get st.bytes a) n.1 ∙ is) (λ _ acted. acts old.state t request h.reply new.state a b apart is k.0 k.1 acted)

  does_spare : (old : JobValue) (t : Name) (s : Statement) (answer : Answer) (new : JobValue) → Apart old.state → get old.state.bytes a ≡ Some b → StatementSpares a old t s new → Does Any old t s answer new → get new.state.bytes a ≡ Some b
  does_spare old t s answer new apart is out h =
      active_or_not (is_active old.state.owners t) h (λ n. unchanged n.1) (λ active said. at s out active said) where
        unchanged : new ≡ old → get new.state.bytes a ≡ Some b
        unchanged e = ap (λ job. get job.state.bytes a) e ∙ is

        at : (s : Statement) → StatementSpares a old t s new → is_active old.state.owners t ≡ true → AnswersTo Any old t s answer new → get new.state.bytes a ≡ Some b
        at (says.Region below above fill residence) out active said = absurd said
        at (says.Request w) out active said = asks_spare old t w (resolved old.names w) answer new apart is active (out active) said
        at (says.Where name) out active said = unchanged said.1
        at says.ReportSubpools out active said = unchanged said.1
        at says.ReportMap out active said = unchanged said.1

  serves_spare : (number : ℕ) (old : JobValue) (bytes : List ℕ) (l : Line) (events : List Event) (new : JobValue) → Apart old.state → get old.state.bytes a ≡ Some b → LineSpares a old bytes new → LineOf false bytes l
      → Serves machine number (Some old) l events (Some new) → get new.state.bytes a ≡ Some b
  serves_spare number old bytes line.Nothing events new apart is out said h = let same : Some new ≡ Some old = h.1 in ap (λ job. get job.state.bytes a) (let e : new ≡ old = cc in e) ∙ is
  serves_spare number old bytes (line.Statement t s) events new apart is out said h =
      served_in machine (λ s. StatementSpares a old t s new) (λ _. get new.state.bytes a ≡ Some b) number old t s events (Some new) h (out t s said)
      (λ below above fill residence out _. absurd out)
      (λ s of_step out d. does_spare old t s d.0 new apart is out (subst (λ job. Does Any old t s d.0 job) (sym (job_is d.1 d.4)) d.2)) where
        job_is : (later : JobValue) → Some new ≡ Some later → new ≡ later
        job_is later e = cc

  runs_spare : (number : ℕ) (lines : List (List ℕ)) (old new : JobValue) → StaysApart old.state → get old.state.bytes a ≡ Some b → RunsSparing a number old lines new → get new.state.bytes a ≡ Some b
  runs_spare number [] old new apart is h = ap (λ job. get job.state.bytes a) h ∙ is
  runs_spare number (l ∷ lines) old new apart is h =
      let mid = h.0 in
      let serves = h.2 in
      runs_spare (number + 1) lines mid new (line_keeps StaysApart apart_closed (λ card is. (start_apart card, start_sized card)) Any number (Some old) l h.1 (Some mid) serves apart)
      (serves_spare number old l serves.0 h.1 mid apart.0 is h.3 serves.1 serves.2) h.4

pub bytes_stay : BytesStay
bytes_stay a b number lines old new running is h =
    runs_spare a b number lines old new (running_keeps StaysApart apart_closed (λ card is. (start_apart card, start_sized card)) old running) is h
