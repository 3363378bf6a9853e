-- A step, case by case.
use Rattle.std.proofs.Common.{◌≡◌, ℕ, zero, suc, ◌+◌, ◌≤◌, ◌⊎◌, inl, inr, Bool, true, false, cond, List, [], ◌∷◌, map, length, Option, Some, None, refl, sym, subst, not, ◌&&◌, ◌==◌, nat_le, MatchBool}
use Rattle.std.specs.Prelude.{is_some}
use Rattle.std.specs.List.{AllByRecursion, list_all}
use Rattle.std.specs.FinMap.{get, len, contains_key}
use Rattle.std.specs.FinSet as set
use Rattle.mvs_model.specs.declared.name.Name.{Name}
use Rattle.mvs_model.specs.declared.want.Side.TheVariants.{Below}
use Rattle.mvs_model.specs.declared.want.Residence.{Residence}
use Rattle.mvs_model.specs.declared.want.Loc.{Loc}
use Rattle.mvs_model.specs.declared.code.Form.{Form}
use Rattle.mvs_model.specs.declared.code.Family.TheVariants.{Located}
use Rattle.mvs_model.specs.declared.code.Code.{Code}
use Rattle.mvs_model.specs.declared.code.Code.TheVariants.{User}
use Rattle.mvs_model.specs.declared.request.Request.{Request}
use Rattle.mvs_model.specs.declared.request.Request.TheVariants.{Obtain, ObtainList, Release, ReleaseList, ReleaseWhole, Build, Get, Free, Delete, Attach, Return, Abend, Show, Put, Move}
use Rattle.mvs_model.specs.declared.request.Reply.{Reply}
use Rattle.mvs_model.specs.declared.request.Reply.TheVariants.{Rc0, Obtained, Listed, Attached}
use Rattle.mvs_model.specs.declared.refusal.Refusal.{Refusal}
use Rattle.mvs_model.specs.declared.refusal.Refusal.TheVariants.{NotActive, InvalidNumber, Shortage, Member, NoPart, OffDoubleword, NoSubpool, NotHeld, Overlap, WholeOfZero, PoolInUse, TooManyPools, NoPool, NoFreeCell, NoTakenCell, TaskInUse, TooManyTasks, NotOwned, ActiveSubtask, Asked, NoAccess}
use Rattle.mvs_model.specs.declared.refusal.Consequence.TheVariants as consequence
use Rattle.mvs_model.specs.Place.{PlaceValue, place_at}
use Rattle.mvs_model.specs.Want.{AskValue, WantValue, want_of, fixed_want, side_of}
use Rattle.mvs_model.specs.Gifts.{GiftsValue}
use Rattle.mvs_model.specs.Storage.{Chosen, NoPlace}
use Rattle.mvs_model.specs.Owners.{is_active, effective_task, subpool_meant, has_subtask, gives_shared}
use Rattle.mvs_model.specs.Pools.{Pool, part_want}
use Rattle.mvs_model.specs.State.{State, holder}
use Rattle.mvs_model.specs.Codes.{family, is_conditional, short, not_held, no_such_cell, task_in_use, too_many_tasks, not_owned}
use Rattle.mvs_model.specs.Changes.{GrantTo, ShortOf, ListGrant, HeldPlain, Disjoint, Frees}
use Rattle.mvs_model.proofs.ByCase.{ListShort}
use Rattle.mvs_model.specs.Numbers.{most_tasks, most_pools}
use Rattle.mvs_model.proofs.ByCase.{StepCase}
use Rattle.mvs_model.specs.Requests.{IsRequest, Plan, Builds, GetsMore, Attaches, residence_of, side_for, is_invalid, on_doubleword, whole, all_granted}
use Rattle.mvs_model.proofs.ByCase.{Acts, Fails, GetStep, FreeStep, DeleteStep, AttachCase, MayRelease}
use Rattle.mvs_model.specs.Consequences.{Abends}
use Rattle.mvs_model.proofs.Tests.{true_false, false_true}
use Rattle.mvs_model.proofs.Decide.{Decided}
use Rattle.mvs_model.proofs.Holdings.{decided_held, decided_each}
use Rattle.mvs_model.proofs.OneOwners.{one_subpool}
use Rattle.mvs_model.proofs.StorageLaws.{none_chosen, part_some, round8_some}
use Rattle.mvs_model.specs.Causes.{Cause, ◌when◌, ◌whenever◌, ◌unless◌, ◌may◌, Refused, Passed, ShortAfter, HoldsEach, cell_causes, free_causes, causes_of, causes}
use Rattle.mvs_model.specs.Consequences.{form_of, reply_to, Settles}
use Rattle.mvs_model.specs.Steps.{Step, TakesSome, GivesBack, Deletes, Does}

-- ---- a list, by its members

pub short_some : (old : State) (t : Name) (number : ℕ) (wants : List WantValue) → ListShort old t number wants → (k : ℕ) × ShortAfter old t number wants k
short_some old t number [] h = absurd h
short_some old t number (want ∷ wants) (inl h) = (zero, h)
short_some old t number (want ∷ wants) (inr h) = let r = short_some h.1 t number wants h.3 in (suc r.0, (h.0, h.1, h.2, r.1))

pub some_short : (old : State) (t : Name) (number : ℕ) (wants : List WantValue) (k : ℕ) → ShortAfter old t number wants k → ListShort old t number wants
some_short old t number [] k h = absurd h
some_short old t number (want ∷ wants) zero h = inl h
some_short old t number (want ∷ wants) (suc k) h = inr (h.0, h.1, h.2, some_short h.1 t number wants k h.3)

-- ---- what is granted is not short

pub no_grant : (old : State) (t : Name) (number : ℕ) (want : WantValue) (p : PlaceValue) (new : State) → 1 ≤ want.least → ShortOf old t number want → GrantTo old t number want p new → ⊥
no_grant old t number want p new some s g =
    none_chosen old.regions (holder old) s.0 want p some s.2 (subst (λ u. Chosen old.regions (holder old) u want p) (one_subpool old.owners t number g.subpool s.0 g.is_subpool s.1) g.chosen)

pub built_not_short : (old new : State) (t name : Name) (number : ℕ) (plan : Plan) → Builds old t name number plan new → ShortOf old t number (part_want plan.cell_size plan.primary plan.side) → ⊥
built_not_short old new t name number plan g s =
    none_chosen old.regions (holder old) s.0 (part_want plan.cell_size plan.primary plan.side) g.2.0 (part_some plan.cell_size plan.primary) s.2
    (subst (λ u. Chosen old.regions (holder old) u (part_want plan.cell_size plan.primary plan.side) g.2.0) (one_subpool old.owners t number g.0 s.0 g.1 s.1) g.2.3.chosen)

pub more_not_short : (old new : State) (name : Name) (pool : Pool) (reply : Reply) → GetsMore old name pool reply new → NoPlace old.regions (holder old) pool.subpool (part_want pool.cell_size pool.secondary pool.side) → ⊥
more_not_short old new name pool reply g none =
    none_chosen old.regions (holder old) pool.subpool (part_want pool.cell_size pool.secondary pool.side) g.0 (part_some pool.cell_size pool.secondary) none g.2.chosen

module _ (old new : State) (t : Name) (reply : Reply) where
  -- a failure is settled by the form's table
  fails : (b : Bool) (code : Code) → Settles old t (cond b consequence.Rc4 (consequence.Abend code)) reply new → Fails b old t code reply new
  fails true code s = s
  fails false code s = s

  settled : (b : Bool) (code : Code) → Fails b old t code reply new → Settles old t (cond b consequence.Rc4 (consequence.Abend code)) reply new
  settled true code s = s
  settled false code s = s

  module _ (request : Request) where
    -- how a refusal of the request is settled
    abbrev Settled : Refusal → Type 0
    Settled refusal = Settles old t (reply_to request refusal) reply new

    -- what becomes of the request by what it may still be refused for, and where it passes
    abbrev Goes : (Refusal → Type 0) → Type 0 → Type 0
    Goes R D = ((refusal : Refusal) × R refusal × Settled refusal) ⊎ (D × Does old t request reply new)

    -- by the causes that are left
    abbrev Left : List Cause → Type 0
    Left causes = Goes (Refused causes) (Passed causes)

    one : (r refusal : Refusal) → r ≡ refusal → Settled r → Settled refusal
    one r refusal e s = subst Settled e s

    -- a test, and what is left
    by_when : {P Q D : Type 0} {R : Refusal → Type 0} (refusal : Refusal) (b : Bool) → (Settled refusal → P) → (Goes R D → Q) → Goes (λ r. ((b ≡ true) × (r ≡ refusal)) ⊎ ((b ≡ false) × R r)) ((b ≡ false) × D) → MatchBool b P Q
    by_when refusal true p q (inl (r, inl h, s)) = p (one r refusal h.1 s)
    by_when refusal true p q (inl (r, inr h, s)) = true_false h.0
    by_when refusal true p q (inr h) = true_false h.0.0
    by_when refusal false p q (inl (r, inl h, s)) = false_true h.0
    by_when refusal false p q (inl (r, inr h, s)) = q (inl (r, h.1, s))
    by_when refusal false p q (inr h) = q (inr (h.0.1, h.1))

    when_by : {P Q D : Type 0} {R : Refusal → Type 0} (refusal : Refusal) (b : Bool) → (P → Settled refusal) → (Q → Goes R D) → MatchBool b P Q → Goes (λ r. ((b ≡ true) × (r ≡ refusal)) ⊎ ((b ≡ false) × R r)) ((b ≡ false) × D)
    when_by {D = D} {R = R} refusal true p q h = inl (refusal, inl (refl, refl), p h)
    when_by {D = D} {R = R} refusal false p q h = at (q h) where
      at : Goes R D → Goes (λ r. ((false ≡ true) × (r ≡ refusal)) ⊎ ((false ≡ false) × R r)) ((false ≡ false) × D)
      at (inl x) = inl (x.0, inr (refl, x.1), x.2)
      at (inr x) = inr ((refl, x.0), x.1)

  -- ---- each step by causes is a step

  new_obtain : (form : Form) (number : ℕ) (ask : AskValue) → Left (Obtain form number ask) (causes_of old t (Obtain form number ask)) → Acts old t (Obtain form number ask) reply new
  new_obtain form number ask = by_when (Obtain form number ask) InvalidNumber (is_invalid number) (λ s. s) at where
    at : Left (Obtain form number ask) (Shortage whenever ShortOf old (effective_task old.owners t number) number (want_of ask (side_for old t form ask.loc)) ∷ [])
        → (ShortOf old (effective_task old.owners t number) number (want_of ask (side_for old t form ask.loc)) × Fails (is_conditional form) old t (short (family form)) reply new)
        ⊎ ((p : PlaceValue) × (reply ≡ Obtained p) × GrantTo old (effective_task old.owners t number) number (want_of ask (side_for old t form ask.loc)) p new)
    at (inl (r, inl h, s)) = inl (h.0, fails (is_conditional form) (short (family form)) (one (Obtain form number ask) r Shortage h.1 s))
    at (inl (r, inr h, s)) = absurd h.1
    at (inr h) = inr h.1

  new_list : (form : Form) (number : ℕ) (lengths : List ℕ) (start : ℕ) → Left (ObtainList form number lengths start) (causes_of old t (ObtainList form number lengths start)) → Acts old t (ObtainList form number lengths start) reply new
  new_list form number lengths start = by_when (ObtainList form number lengths start) InvalidNumber (is_invalid number) (λ s. s) at where
    at : Left (ObtainList form number lengths start) ((λ k. Member (k + 1)) may ShortAfter old (effective_task old.owners t number) number (map (λ n. fixed_want n start Below) lengths) ∷ [])
        → (ListShort old (effective_task old.owners t number) number (map (λ n. fixed_want n start Below) lengths) × Fails (is_conditional form) old t (short (family form)) reply new)
        ⊎ ((ps : List PlaceValue) × (reply ≡ Listed ps) × ListGrant old (effective_task old.owners t number) number (map (λ n. fixed_want n start Below) lengths) ps new)
    at (inl (r, inl h, s)) = inl (some_short old (effective_task old.owners t number) number _ h.0 h.1, fails (is_conditional form) (short (family form)) (one (ObtainList form number lengths start) r (Member (h.0 + 1)) h.2 s))
    at (inl (r, inr h, s)) = absurd h.1
    at (inr h) = inr h.1

  -- what becomes of places by what the subpool holds
  abbrev Releases : Form → Option ℕ → List PlaceValue → Type 0
  Releases form v ps = ((MayRelease old v ps → ⊥) × Fails (is_conditional form) old t (not_held (family form)) reply new) ⊎ (MayRelease old v ps × (reply ≡ Rc0) × Frees old ps new)

  -- the causes of a release after its number and its addresses
  abbrev place_causes : Option ℕ → List PlaceValue → List Cause
  place_causes v ps = NoSubpool when not (is_some v) ∷ NotHeld unless HoldsEach old v ps ∷ Overlap unless Disjoint ps ∷ []

  -- a release, of a request that is one
  module _ (request : Request) (form : Form) (ps : List PlaceValue)
      (held : (refusal : Refusal) → (refusal ≡ NoSubpool) ⊎ ((refusal ≡ NotHeld) ⊎ (refusal ≡ Overlap)) → Settled request refusal → Fails (is_conditional form) old t (not_held (family form)) reply new)
      (done : Does old t request reply new → (reply ≡ Rc0) × Frees old ps new) where
    new_places : (v : Option ℕ) → Left request (place_causes v ps) → Releases form v ps
    new_places None (inl (r, inl h, s)) = inl (λ m. m, held r (inl h.1) s)
    new_places None (inl (r, inr h, s)) = true_false h.0
    new_places None (inr h) = true_false h.0.0
    new_places (Some u) (inl (r, inl h, s)) = false_true h.0
    new_places (Some u) (inl (r, inr (a, inl h), s)) = inl (λ m. h.0 m.0, held r (inr (inl h.1)) s)
    new_places (Some u) (inl (r, inr (a, inr (b, inl h)), s)) = inl (λ m. h.0 m.1, held r (inr (inr h.1)) s)
    new_places (Some u) (inl (r, inr (a, inr (b, inr h)), s)) = absurd h.1
    new_places (Some u) (inr ((a, (b, (c, e))), d)) = let g = done d in inr ((b, c), g.0, g.1)

  -- the three refusals for storage that is not held have one consequence
  held_fails : (request : Request) (refusal : Refusal) → (refusal ≡ NoSubpool) ⊎ ((refusal ≡ NotHeld) ⊎ (refusal ≡ Overlap)) → Settled request refusal → Fails (is_conditional (form_of request)) old t (not_held (family (form_of request))) reply new
  held_fails request r (inl e) s = fails (is_conditional (form_of request)) _ (one request r NoSubpool e s)
  held_fails request r (inr (inl e)) s = fails (is_conditional (form_of request)) _ (one request r NotHeld e s)
  held_fails request r (inr (inr e)) s = fails (is_conditional (form_of request)) _ (one request r Overlap e s)

  new_release : (form : Form) (number : ℕ) (p : PlaceValue) → Left (Release form number p) (causes_of old t (Release form number p)) → Acts old t (Release form number p) reply new
  new_release form number p =
      by_when (Release form number p) InvalidNumber (is_invalid number) (λ s. s)
      (by_when (Release form number p) OffDoubleword (not (list_all on_doubleword (p ∷ []))) (λ s. s)
      (new_places (Release form number p) form (map whole (p ∷ [])) (held_fails (Release form number p)) (λ d. d) (subpool_meant old.owners t number)))

  new_releases : (form : Form) (number : ℕ) (ps : List PlaceValue) → Left (ReleaseList form number ps) (causes_of old t (ReleaseList form number ps)) → Acts old t (ReleaseList form number ps) reply new
  new_releases form number ps =
      by_when (ReleaseList form number ps) InvalidNumber (is_invalid number) (λ s. s)
      (by_when (ReleaseList form number ps) OffDoubleword (not (list_all on_doubleword ps)) (λ s. s)
      (new_places (ReleaseList form number ps) form (map whole ps) (held_fails (ReleaseList form number ps)) (λ d. d) (subpool_meant old.owners t number)))

  -- where no cause is left the request is done
  nothing_left : (request : Request) → Left request [] → Does old t request reply new
  nothing_left request (inl (r, h, s)) = absurd h
  nothing_left request (inr h) = h.1

  new_whole : (form : Form) (number : ℕ) → Left (ReleaseWhole form number) (causes_of old t (ReleaseWhole form number)) → Acts old t (ReleaseWhole form number) reply new
  new_whole form number =
      by_when (ReleaseWhole form number) InvalidNumber (is_invalid number) (λ s. s)
      (by_when (ReleaseWhole form number) WholeOfZero (number == 0) (λ s. s) (nothing_left (ReleaseWhole form number)))

  abbrev plan_of : (size primary secondary : ℕ) (loc : Loc) → Plan
  plan_of size primary secondary loc = record { cell_size = size; primary = primary; secondary = secondary; side = side_of loc (residence_of old.owners t) }

  new_build : (name : Name) (number size primary secondary : ℕ) (loc : Loc) → Left (Build name number size primary secondary loc) (causes_of old t (Build name number size primary secondary loc)) → Acts old t (Build name number size primary secondary loc) reply new
  new_build name number size primary secondary loc =
      by_when (Build name number size primary secondary loc) InvalidNumber (is_invalid number) (λ s. s)
      (by_when (Build name number size primary secondary loc) PoolInUse (contains_key old.pools name) (λ s. s)
      (by_when (Build name number size primary secondary loc) TooManyPools (nat_le most_pools (len old.pools)) (λ s. s) at)) where
        at : Left (Build name number size primary secondary loc) (NoPart whenever ShortOf old (effective_task old.owners t number) number (part_want size primary (side_of loc (residence_of old.owners t))) ∷ [])
            → (ShortOf old (effective_task old.owners t number) number (part_want size primary (side_of loc (residence_of old.owners t))) × Abends old t (short Located) reply new)
            ⊎ (Builds old (effective_task old.owners t number) name number (record { cell_size = size; primary = primary; secondary = secondary; side = side_of loc (residence_of old.owners t) }) new × (reply ≡ Rc0))
        at (inl (r, inl h, s)) = inl (h.0, one (Build name number size primary secondary loc) r NoPart h.1 s)
        at (inl (r, inr h, s)) = absurd h.1
        at (inr h) = inr (h.1.1, h.1.0)

  -- what becomes of GET by the pool
  new_cell : (name : Name) (conditional : Bool) (v : Option Pool)
      → ((refusal : Refusal) × Refused (NoPool when not (is_some v) ∷ cell_causes old conditional v) refusal × Settled (Get name conditional) refusal) ⊎ (Passed (NoPool when not (is_some v) ∷ cell_causes old conditional v) × TakesSome old name v reply new)
      → GetStep old t name conditional v reply new
  new_cell name conditional None (inl (r, inl h, s)) = one (Get name conditional) r NoPool h.1 s
  new_cell name conditional None (inl (r, inr h, s)) = true_false h.0
  new_cell name conditional None (inr h) = true_false h.0.0
  new_cell name conditional (Some pool) (inl (r, inl h, s)) = false_true h.0
  new_cell name true (Some pool) (inl (r, inr (a, inl h), s)) = inr (h.0.1, one (Get name true) r NoFreeCell h.1 s)
  new_cell name false (Some pool) (inl (r, inr (a, inl h), s)) = false_true h.0.0
  new_cell name true (Some pool) (inl (r, inr (a, inr (b, inl h)), s)) = absurd (b (refl, h.0.0))
  new_cell name false (Some pool) (inl (r, inr (a, inr (b, inl h)), s)) = inr (h.0.0, inl (h.0.1, one (Get name false) r NoPart h.1 s))
  new_cell name conditional (Some pool) (inl (r, inr (a, inr (b, inr h)), s)) = absurd h.1
  new_cell name conditional (Some pool) (inr (h, inl g)) = inl g
  new_cell name true (Some pool) (inr ((a, (b, c)), inr g)) = absurd (b (refl, g.0))
  new_cell name false (Some pool) (inr (h, inr g)) = inr (g.0, inr g.1)

  new_free : (name : Name) (c : ℕ) (v : Option Pool)
      → ((refusal : Refusal) × Refused (NoPool when not (is_some v) ∷ free_causes c v) refusal × Settled (Free name c) refusal) ⊎ (Passed (NoPool when not (is_some v) ∷ free_causes c v) × ((reply ≡ Rc0) × GivesBack old name c v new))
      → FreeStep old t name c v reply new
  new_free name c None (inl (r, inl h, s)) = one (Free name c) r NoPool h.1 s
  new_free name c None (inl (r, inr h, s)) = true_false h.0
  new_free name c None (inr h) = true_false h.0.0
  new_free name c (Some pool) h = at (not (set.contains pool.taken c)) h where
    at : (b : Bool) → ((refusal : Refusal) × Refused (NoPool when false ∷ NoTakenCell when b ∷ []) refusal × Settled (Free name c) refusal) ⊎ (Passed (NoPool when false ∷ NoTakenCell when b ∷ []) × ((reply ≡ Rc0) × GivesBack old name c (Some pool) new)) → MatchBool b (Abends old t no_such_cell reply new) ((reply ≡ Rc0) × GivesBack old name c (Some pool) new)
    at b (inl (r, inl h, s)) = false_true h.0
    at true (inl (r, inr (a, inl h), s)) = one (Free name c) r NoTakenCell h.1 s
    at false (inl (r, inr (a, inl h), s)) = false_true h.0
    at b (inl (r, inr (a, inr h), s)) = absurd h.1
    at true (inr ((a, (b, c)), (d, e))) = true_false b
    at false (inr ((a, (b, c)), (d, e))) = (d, e)

  new_delete : (name : Name) (v : Option Pool)
      → ((refusal : Refusal) × Refused (NoPool when not (is_some v) ∷ []) refusal × Settled (Delete name) refusal) ⊎ (Passed (NoPool when not (is_some v) ∷ []) × ((reply ≡ Rc0) × Deletes old name v new))
      → DeleteStep old t name v reply new
  new_delete name None (inl (r, inl h, s)) = one (Delete name) r NoPool h.1 s
  new_delete name None (inl (r, inr h, s)) = true_false h.0
  new_delete name None (inr h) = true_false h.0.0
  new_delete name (Some pool) (inl (r, inl h, s)) = false_true h.0
  new_delete name (Some pool) (inl (r, inr h, s)) = absurd h.1
  new_delete name (Some pool) (inr h) = h.1

  -- a test that is the last one
  abbrev LastTest : Request → Refusal → Bool → Type 0
  LastTest request refusal b = Left request (refusal when b ∷ [])

  new_test : (request : Request) (refusal : Refusal) (b : Bool) → LastTest request refusal b → MatchBool b (Settled request refusal) (Does old t request reply new)
  new_test request refusal b = by_when request refusal b (λ s. s) (nothing_left request)

  new_attach : (name : Name) (gifts : GiftsValue) (residence : Residence) → Left (Attach name gifts residence) (causes_of old t (Attach name gifts residence)) → Acts old t (Attach name gifts residence) reply new
  new_attach name gifts residence = at (is_active old.owners name) (nat_le most_tasks (len old.owners.tasks)) (gives_shared old.owners t gifts) where
    at : (a b c : Bool) → Left (Attach name gifts residence) (TaskInUse when a ∷ TooManyTasks when b ∷ NotOwned when c ∷ [])
        → AttachCase old t name gifts residence (cond a (Some task_in_use) (cond b (Some too_many_tasks) (cond c (Some not_owned) None))) reply new
    at a b c h = case a b c (by_when (Attach name gifts residence) TaskInUse a (λ s. s) (by_when (Attach name gifts residence) TooManyTasks b (λ s. s) (new_test (Attach name gifts residence) NotOwned c)) h) where
      case : (a b c : Bool) → MatchBool a (Abends old t task_in_use reply new) (MatchBool b (Abends old t too_many_tasks reply new) (MatchBool c (Abends old t not_owned reply new) ((reply ≡ Attached) × Attaches old t name gifts residence new)))
          → AttachCase old t name gifts residence (cond a (Some task_in_use) (cond b (Some too_many_tasks) (cond c (Some not_owned) None))) reply new
      case true b c h = h
      case false true c h = h
      case false false true h = h
      case false false false h = h

  new_abend : (n : ℕ) → Left (Abend n) (Asked n when true ∷ []) → Abends old t (User n) reply new
  new_abend n h = new_test (Abend n) (Asked n) true h

  new_each : (request : Request) → Left request (causes_of old t request) → Acts old t request reply new
  new_each (Obtain form number ask) = new_obtain form number ask
  new_each (ObtainList form number lengths start) = new_list form number lengths start
  new_each (Release form number p) = new_release form number p
  new_each (ReleaseList form number ps) = new_releases form number ps
  new_each (ReleaseWhole form number) = new_whole form number
  new_each (Build name number size primary secondary loc) = new_build name number size primary secondary loc
  new_each (Get name conditional) = new_cell name conditional (get old.pools name)
  new_each (Free name c) = new_free name c (get old.pools name)
  new_each (Delete name) = new_delete name (get old.pools name)
  new_each (Attach name gifts residence) = new_attach name gifts residence
  new_each Return = new_test Return ActiveSubtask (has_subtask old.owners t)
  new_each (Abend n) = new_abend n
  new_each (Show a n) = new_test (Show a n) NoAccess (not (all_granted old (place_at a n)))
  new_each (Put a bytes) = new_test (Put a bytes) NoAccess (not (all_granted old (place_at a (length bytes))))
  new_each (Move to from n) = new_test (Move to from n) NoAccess (not (all_granted old (place_at to n) && all_granted old (place_at from n)))

  -- ---- each step is one by causes

  same_obtain : (form : Form) (number : ℕ) (ask : AskValue) → 1 ≤ ask.least → Acts old t (Obtain form number ask) reply new → Left (Obtain form number ask) (causes_of old t (Obtain form number ask))
  same_obtain form number ask some = when_by (Obtain form number ask) InvalidNumber (is_invalid number) (λ s. s) at where
    at : (ShortOf old (effective_task old.owners t number) number (want_of ask (side_for old t form ask.loc)) × Fails (is_conditional form) old t (short (family form)) reply new)
        ⊎ ((p : PlaceValue) × (reply ≡ Obtained p) × GrantTo old (effective_task old.owners t number) number (want_of ask (side_for old t form ask.loc)) p new)
        → Left (Obtain form number ask) (Shortage whenever ShortOf old (effective_task old.owners t number) number (want_of ask (side_for old t form ask.loc)) ∷ [])
    at (inl h) = inl (Shortage, inl (h.0, refl), settled (is_conditional form) (short (family form)) h.1)
    at (inr h) = inr ((λ s. no_grant old (effective_task old.owners t number) number (want_of ask (side_for old t form ask.loc)) h.0 new (round8_some ask.least some) s h.2, tt), h)

  same_list : (form : Form) (number : ℕ) (lengths : List ℕ) (start : ℕ) → Acts old t (ObtainList form number lengths start) reply new → Left (ObtainList form number lengths start) (causes_of old t (ObtainList form number lengths start))
  same_list form number lengths start = when_by (ObtainList form number lengths start) InvalidNumber (is_invalid number) (λ s. s) at where
    at : (ListShort old (effective_task old.owners t number) number (map (λ n. fixed_want n start Below) lengths) × Fails (is_conditional form) old t (short (family form)) reply new)
        ⊎ ((ps : List PlaceValue) × (reply ≡ Listed ps) × ListGrant old (effective_task old.owners t number) number (map (λ n. fixed_want n start Below) lengths) ps new)
        → Left (ObtainList form number lengths start) ((λ k. Member (k + 1)) may ShortAfter old (effective_task old.owners t number) number (map (λ n. fixed_want n start Below) lengths) ∷ [])
    at (inl h) = let m = short_some old (effective_task old.owners t number) number _ h.0 in inl (Member (m.0 + 1), inl (m.0, m.1, refl), settled (is_conditional form) (short (family form)) h.1)
    at (inr h) = inr ((tt, tt), h)

  -- a release, of a request that is one
  module _ (request : Request) (form : Form) (ps : List PlaceValue)
      (held : (refusal : Refusal) → (refusal ≡ NoSubpool) ⊎ ((refusal ≡ NotHeld) ⊎ (refusal ≡ Overlap)) → Fails (is_conditional form) old t (not_held (family form)) reply new → Settled request refusal)
      (done : (reply ≡ Rc0) × Frees old ps new → Does old t request reply new) where
    same_places : (v : Option ℕ) → Releases form v ps → Left request (place_causes v ps)
    same_places None (inl f) = inl (NoSubpool, inl (refl, refl), held NoSubpool (inl refl) f.1)
    same_places None (inr g) = absurd g.0
    same_places (Some u) (inl f) = at (decided_each (HeldPlain old u) (decided_held old u) ps) where
      at : Decided (AllByRecursion (HeldPlain old u) ps) → Left request (place_causes (Some u) ps)
      at (inl h) = inl (Overlap, inr (refl, inr (h, inl ((λ d. f.0 (h, d)), refl))), held Overlap (inr (inr refl)) f.1)
      at (inr h) = inl (NotHeld, inr (refl, inl (h, refl)), held NotHeld (inr (inl refl)) f.1)
    same_places (Some u) (inr g) = inr ((refl, (g.0.0, (g.0.1, tt))), done (g.1, g.2))

  fails_held : (request : Request) (refusal : Refusal) → (refusal ≡ NoSubpool) ⊎ ((refusal ≡ NotHeld) ⊎ (refusal ≡ Overlap)) → Fails (is_conditional (form_of request)) old t (not_held (family (form_of request))) reply new → Settled request refusal
  fails_held request r (inl e) f = one request NoSubpool r (sym e) (settled (is_conditional (form_of request)) _ f)
  fails_held request r (inr (inl e)) f = one request NotHeld r (sym e) (settled (is_conditional (form_of request)) _ f)
  fails_held request r (inr (inr e)) f = one request Overlap r (sym e) (settled (is_conditional (form_of request)) _ f)

  same_release : (form : Form) (number : ℕ) (p : PlaceValue) → Acts old t (Release form number p) reply new → Left (Release form number p) (causes_of old t (Release form number p))
  same_release form number p =
      when_by (Release form number p) InvalidNumber (is_invalid number) (λ s. s)
      (when_by (Release form number p) OffDoubleword (not (list_all on_doubleword (p ∷ []))) (λ s. s)
      (same_places (Release form number p) form (map whole (p ∷ [])) (fails_held (Release form number p)) (λ d. d) (subpool_meant old.owners t number)))

  same_releases : (form : Form) (number : ℕ) (ps : List PlaceValue) → Acts old t (ReleaseList form number ps) reply new → Left (ReleaseList form number ps) (causes_of old t (ReleaseList form number ps))
  same_releases form number ps =
      when_by (ReleaseList form number ps) InvalidNumber (is_invalid number) (λ s. s)
      (when_by (ReleaseList form number ps) OffDoubleword (not (list_all on_doubleword ps)) (λ s. s)
      (same_places (ReleaseList form number ps) form (map whole ps) (fails_held (ReleaseList form number ps)) (λ d. d) (subpool_meant old.owners t number)))

  all_passed : (request : Request) → Does old t request reply new → Left request []
  all_passed request d = inr (tt, d)

  same_test : (request : Request) (refusal : Refusal) (b : Bool) → MatchBool b (Settled request refusal) (Does old t request reply new) → LastTest request refusal b
  same_test request refusal b = when_by request refusal b (λ s. s) (all_passed request)

  same_whole : (form : Form) (number : ℕ) → Acts old t (ReleaseWhole form number) reply new → Left (ReleaseWhole form number) (causes_of old t (ReleaseWhole form number))
  same_whole form number = when_by (ReleaseWhole form number) InvalidNumber (is_invalid number) (λ s. s) (same_test (ReleaseWhole form number) WholeOfZero (number == 0))

  same_build : (name : Name) (number size primary secondary : ℕ) (loc : Loc) → Acts old t (Build name number size primary secondary loc) reply new → Left (Build name number size primary secondary loc) (causes_of old t (Build name number size primary secondary loc))
  same_build name number size primary secondary loc =
      when_by (Build name number size primary secondary loc) InvalidNumber (is_invalid number) (λ s. s)
      (when_by (Build name number size primary secondary loc) PoolInUse (contains_key old.pools name) (λ s. s)
      (when_by (Build name number size primary secondary loc) TooManyPools (nat_le most_pools (len old.pools)) (λ s. s) at)) where
        at : (ShortOf old (effective_task old.owners t number) number (part_want size primary (side_of loc (residence_of old.owners t))) × Abends old t (short Located) reply new)
            ⊎ (Builds old (effective_task old.owners t number) name number (record { cell_size = size; primary = primary; secondary = secondary; side = side_of loc (residence_of old.owners t) }) new × (reply ≡ Rc0))
            → Left (Build name number size primary secondary loc) (NoPart whenever ShortOf old (effective_task old.owners t number) number (part_want size primary (side_of loc (residence_of old.owners t))) ∷ [])
        at (inl h) = inl (NoPart, inl (h.0, refl), h.1)
        at (inr h) = inr ((built_not_short old new (effective_task old.owners t number) name number (plan_of size primary secondary loc) h.0, tt), (h.1, h.0))

  same_cell : (name : Name) (conditional : Bool) (v : Option Pool) → GetStep old t name conditional v reply new
      → ((refusal : Refusal) × Refused (NoPool when not (is_some v) ∷ cell_causes old conditional v) refusal × Settled (Get name conditional) refusal) ⊎ (Passed (NoPool when not (is_some v) ∷ cell_causes old conditional v) × TakesSome old name v reply new)
  same_cell name conditional None h = inl (NoPool, inl (refl, refl), h)
  same_cell name conditional (Some pool) (inl g) = inr ((refl, ((λ h. h.1 g.0 g.1), ((λ h. h.0 g.0 g.1), tt))), inl g)
  same_cell name true (Some pool) (inr g) = inl (NoFreeCell, inr (refl, inl ((refl, g.0), refl)), g.1)
  same_cell name false (Some pool) (inr (none, inl g)) = inl (NoPart, inr (refl, inr ((λ h. false_true h.0), inl ((none, g.0), refl))), g.1)
  same_cell name false (Some pool) (inr (none, inr g)) = inr ((refl, ((λ h. false_true h.0), ((λ h. more_not_short old new name pool reply g h.1), tt))), inr (none, g))

  same_free : (name : Name) (c : ℕ) (v : Option Pool) → FreeStep old t name c v reply new
      → ((refusal : Refusal) × Refused (NoPool when not (is_some v) ∷ free_causes c v) refusal × Settled (Free name c) refusal) ⊎ (Passed (NoPool when not (is_some v) ∷ free_causes c v) × ((reply ≡ Rc0) × GivesBack old name c v new))
  same_free name c None h = inl (NoPool, inl (refl, refl), h)
  same_free name c (Some pool) h = at (not (set.contains pool.taken c)) h where
    at : (b : Bool) → MatchBool b (Abends old t no_such_cell reply new) ((reply ≡ Rc0) × GivesBack old name c (Some pool) new) → ((refusal : Refusal) × Refused (NoPool when false ∷ NoTakenCell when b ∷ []) refusal × Settled (Free name c) refusal) ⊎ (Passed (NoPool when false ∷ NoTakenCell when b ∷ []) × ((reply ≡ Rc0) × GivesBack old name c (Some pool) new))
    at true h = inl (NoTakenCell, inr (refl, inl (refl, refl)), h)
    at false h = inr ((refl, (refl, tt)), h)

  same_delete : (name : Name) (v : Option Pool) → DeleteStep old t name v reply new
      → ((refusal : Refusal) × Refused (NoPool when not (is_some v) ∷ []) refusal × Settled (Delete name) refusal) ⊎ (Passed (NoPool when not (is_some v) ∷ []) × ((reply ≡ Rc0) × Deletes old name v new))
  same_delete name None h = inl (NoPool, inl (refl, refl), h)
  same_delete name (Some pool) h = inr ((refl, tt), h)

  same_attach : (name : Name) (gifts : GiftsValue) (residence : Residence) → Acts old t (Attach name gifts residence) reply new → Left (Attach name gifts residence) (causes_of old t (Attach name gifts residence))
  same_attach name gifts residence = at (is_active old.owners name) (nat_le most_tasks (len old.owners.tasks)) (gives_shared old.owners t gifts) where
    at : (a b c : Bool) → AttachCase old t name gifts residence (cond a (Some task_in_use) (cond b (Some too_many_tasks) (cond c (Some not_owned) None))) reply new
        → Left (Attach name gifts residence) (TaskInUse when a ∷ TooManyTasks when b ∷ NotOwned when c ∷ [])
    at true b c h = inl (TaskInUse, inl (refl, refl), h)
    at false true c h = inl (TooManyTasks, inr (refl, inl (refl, refl)), h)
    at false false true h = inl (NotOwned, inr (refl, inr (refl, inl (refl, refl))), h)
    at false false false h = inr ((refl, (refl, (refl, tt))), h)

  same_abend : (n : ℕ) → Abends old t (User n) reply new → Left (Abend n) (Asked n when true ∷ [])
  same_abend n h = same_test (Abend n) (Asked n) true h

  same_each : (request : Request) → IsRequest request → Acts old t request reply new → Left request (causes_of old t request)
  same_each (Obtain form number ask) is = same_obtain form number ask is.some
  same_each (ObtainList form number lengths start) is = same_list form number lengths start
  same_each (Release form number p) is = same_release form number p
  same_each (ReleaseList form number ps) is = same_releases form number ps
  same_each (ReleaseWhole form number) is = same_whole form number
  same_each (Build name number size primary secondary loc) is = same_build name number size primary secondary loc
  same_each (Get name conditional) is = same_cell name conditional (get old.pools name)
  same_each (Free name c) is = same_free name c (get old.pools name)
  same_each (Delete name) is = same_delete name (get old.pools name)
  same_each (Attach name gifts residence) is = same_attach name gifts residence
  same_each Return is = same_test Return ActiveSubtask (has_subtask old.owners t)
  same_each (Abend n) is = same_abend n
  same_each (Show a n) is = same_test (Show a n) NoAccess (not (all_granted old (place_at a n)))
  same_each (Put a bytes) is = same_test (Put a bytes) NoAccess (not (all_granted old (place_at a (length bytes))))
  same_each (Move to from n) is = same_test (Move to from n) NoAccess (not (all_granted old (place_at to n) && all_granted old (place_at from n)))

pub step_cases : (old : State) (t : Name) (request : Request) (reply : Reply) (new : State) → Step old t request reply new → StepCase old t request reply new
step_cases old t request reply new = by_when old new t reply request NotActive (not (is_active old.owners t)) (λ s. s) (new_each old new t reply request)

pub cases_step : (old : State) (t : Name) (request : Request) (reply : Reply) (new : State) → IsRequest request → StepCase old t request reply new → Step old t request reply new
cases_step old t request reply new is = when_by old new t reply request NotActive (not (is_active old.owners t)) (λ s. s) (same_each old new t reply request is)
