-- What each of a few changes keeps, each step of the machine keeps.
use Rattle.std.proofs.Common.{◌≡◌, ◌∙◌, ℕ, ◌≤◌, ◌⊎◌, inl, inr, Bool, true, false, cond, unwrap_or, is_some, ap, List, [], ◌∷◌, map, length, Option, Some, None, refl, sym, subst, not, ◌&&◌, nat_le, ◌==◌, arith}
use Rattle.std.specs.List.{list_all, AllByRecursion}
use Rattle.std.specs.FinMap.{get, contains_key, len}
use Rattle.std.specs.FinSet as set
use Rattle.std.proofs.lemmas.Bool.{not-false}
use Rattle.std.specs.Cmp.{first_so}
use Rattle.std.proofs.lemmas.Grind.{common_steps}
use Rattle.mvs_laws.proofs.Types.{Name, Below, Residence, Form, Located, Code, Request, Obtain, ObtainList, Release, ReleaseList, ReleaseWhole, Build, Get, Free, Delete, Attach, Return, Abend, Show, Put, Move, Reply, NotRun, Rc0, NoCell}
use Rattle.mvs_model.proofs.StepCases.{step_cases}
use Rattle.mvs_model.specs.Place.{PlaceValue, place_at}
use Rattle.mvs_model.specs.Want.{WantValue, want_of, fixed_want, side_of}
use Rattle.mvs_model.specs.Gifts.{GiftsValue}
use Rattle.mvs_model.specs.Storage.{NoPlace, IsWhole}
use Rattle.mvs_model.specs.Owners.{Owners, is_active, job_step_task, effective_task, subpool_meant, SubpoolOf, Enters, has_subtask}
use Rattle.mvs_model.proofs.ByCase.{attach_refusal}
use Rattle.mvs_model.specs.Pools.{Pool, part_want, IsCellOf, IsFreeCell}
use Rattle.mvs_model.specs.State.{State, holder}
use Rattle.mvs_model.specs.Codes.{family, is_conditional, short, not_held}
use Rattle.mvs_model.specs.Changes.{with_part, GrantTo, ShortOf, ListGrant, Releasable, Frees, Empties, End, Extends, TakesCell, GivesCell, DropsPool, Writes}
use Rattle.mvs_model.specs.Requests.{Plan, is_invalid, side_for, residence_of, whole, on_doubleword, EmptiesEntry, new_pool, Builds, GetsMore, Attaches, all_granted, bytes_from, moved_from, IsRequest}
use Rattle.mvs_model.specs.Consequences.{Abends, Refuses}
use Rattle.mvs_model.proofs.ByCase.{Fails, ObtainStep, ObtainListStep, MayRelease, ReleaseStep, ReleaseWholeStep, BuildStep, GetsNone, GetStep, FreeStep, DeleteStep, AttachCase, ReturnStep, Accesses, Acts}
use Rattle.mvs_model.specs.Steps.{Step}
use Rattle.mvs_model.specs.Subpool.{is_step_number, is_subpool_number}
use Rattle.mvs_model.proofs.Keepers.{first_of}
use Rattle.mvs_model.proofs.Operands.{whole_places, HasBytes, bytes_put, moved_granted}
use Rattle.mvs_model.proofs.Tests.{by_test}

-- what a plan of a pool has in its ranges
abbrev pub IsPlan : Plan → Type 0
IsPlan plan = (4 ≤ plan.cell_size) × (1 ≤ plan.primary) × (1 ≤ plan.secondary)

-- what BUILD says of a pool is in its ranges
abbrev pub HasPlan : Request → Type 0
HasPlan (Build name number size primary secondary loc) = (4 ≤ size) × (1 ≤ primary) × (1 ≤ secondary)
HasPlan _ = Unit {0}

-- so is it in a request whose operands are
pub plan_in_range : (request : Request) → IsRequest request → HasPlan request
plan_in_range request h1 = grind (arith, common_steps)

-- The task is active, and a program may name the number.
pub record IsAsker (o : Owners) (t : Name) (number : ℕ) : Type 0 where
  pub active : is_active o t ≡ true
  pub valid : is_subpool_number number ≡ true

-- The property stays through each change that a request can make.
pub record Closed (P : State → Type 0) : Type 0 where
  pub granted : (old : State) (t : Name) (number : ℕ) (want : WantValue) (p : PlaceValue) (new : State) → IsAsker old.owners t number → GrantTo old t number want p new → P old → P new
  pub freed : (old : State) (s : ℕ) (ps : List PlaceValue) (new : State) → AllByRecursion IsWhole ps → Releasable old s ps → Frees old ps new → P old → P new
  pub emptied : (old : State) (s : ℕ) (new : State) → Empties old s new → P old → P new
  pub ended : (old : State) (t : Name) (new : State) → End old t new → P old → P new
  pub built : (old : State) (t name : Name) (number s : ℕ) (plan : Plan) (p : PlaceValue) (o : Owners) (new : State) → contains_key old.pools name ≡ false → IsPlan plan → IsAsker old.owners t number → SubpoolOf old.owners t number s → Enters old.owners t number s o → Extends old name (new_pool s plan) plan.primary p o new → P old → P new
  pub grown : (old : State) (name : Name) (pool : Pool) (p : PlaceValue) (mid : State) (c : ℕ) (new : State) → get old.pools name ≡ Some pool → Extends old name pool pool.secondary p old.owners mid → IsCellOf pool.cell_size (record { place = p; count = pool.secondary }) c → TakesCell mid name (with_part pool pool.secondary p) c new → P old → P new
  pub taken : (old : State) (name : Name) (pool : Pool) (c : ℕ) (new : State) → get old.pools name ≡ Some pool → IsFreeCell pool c → TakesCell old name pool c new → P old → P new
  pub given : (old : State) (name : Name) (pool : Pool) (c : ℕ) (new : State) → get old.pools name ≡ Some pool → set.contains pool.taken c ≡ true → GivesCell old name pool c new → P old → P new
  pub dropped : (old : State) (name : Name) (pool : Pool) (new : State) → get old.pools name ≡ Some pool → DropsPool old name pool new → P old → P new
  pub attached : (old : State) (t name : Name) (gifts : GiftsValue) (residence : Residence) (new : State) → is_active old.owners t ≡ true → attach_refusal old.owners t name gifts ≡ None → Attaches old t name gifts residence new → P old → P new
  pub written : (old : State) (p : PlaceValue) (value : ℕ → Option ℕ) (new : State) → all_granted old p ≡ true → HasBytes old p value → Writes old p value new → P old → P new

-- the task whose subpools are meant by a number is active where the one that asks is
keeper_active : (o : Owners) (t : Name) (number : ℕ) → is_active o t ≡ true → is_active o (effective_task o t number) ≡ true
keeper_active o t number active = at (is_step_number number) (job_step_task o) refl where
  at : (b : Bool) (first : Option Name) → job_step_task o ≡ first → is_active o (cond b (unwrap_or first t) t) ≡ true
  at false first e = active
  at true None e = active
  at true (Some q) e = let is = first_of o q e in ap is_some is.1

asker : (o : Owners) (t : Name) (number : ℕ) → is_active o t ≡ true → is_invalid number ≡ false → IsAsker o (effective_task o t number) number
asker o t number active valid = record { active = keeper_active o t number active; valid = not-false (is_subpool_number number) valid }

-- a grant leaves the tasks
pub enters_tasks : (o : Owners) (t : Name) (number s : ℕ) (new : Owners) → Enters o t number s new → new.tasks ≡ o.tasks
enters_tasks o t number s new h = grind (arith, common_steps)

module _ (P : State → Type 0) (closed : Closed P) where
  abends : (old : State) (t : Name) (code : Code) (reply : Reply) (new : State) → Abends old t code reply new → P old → P new
  abends old t code reply new h p = closed.ended old t new h.0 p

  refuses : (old : State) (answer reply : Reply) (new : State) → Refuses old answer reply new → P old → P new
  refuses old answer reply new h p = subst P (sym h.1) p

  fails : (b : Bool) (old : State) (t : Name) (code : Code) (reply : Reply) (new : State) → Fails b old t code reply new → P old → P new
  fails true old t code reply new h p = subst P (sym h.1) p
  fails false old t code reply new h p = closed.ended old t new h.0 p

  obtains : (old : State) (t : Name) (form : Form) (number : ℕ) (want : WantValue) (reply : Reply) (new : State) → is_active old.owners t ≡ true → ObtainStep old t form number want reply new → P old → P new
  obtains old t form number want reply new active h p =
      by_test (is_invalid number) h (λ _ a. abends old t _ reply new a p) (λ v k. elim k [ inl f ↦ fails _ old t _ reply new f.1 p | inr g ↦ closed.granted old (effective_task old.owners t number) number want g.0 new (asker old.owners t number active v) g.2 p ])

  lists : (t : Name) (number : ℕ) (wants : List WantValue) (ps : List PlaceValue) (old new : State) → IsAsker old.owners t number → ListGrant old t number wants ps new → P old → P new
  lists t number [] [] old new asks h p = subst P (sym h) p
  lists t number [] (q ∷ ps) old new asks h p = absurd h
  lists t number (want ∷ wants) [] old new asks h p = absurd h
  lists t number (want ∷ wants) (q ∷ ps) old new asks h p =
      lists t number wants ps h.0 new (record { active = ap (λ m. contains_key m t) (enters_tasks old.owners t number h.1.subpool h.0.owners h.1.owners) ∙ asks.active; valid = asks.valid }) h.2 (closed.granted old t number want q h.0 asks h.1 p)

  obtains_list : (old : State) (t : Name) (form : Form) (number : ℕ) (wants : List WantValue) (reply : Reply) (new : State) → is_active old.owners t ≡ true → ObtainListStep old t form number wants reply new → P old → P new
  obtains_list old t form number wants reply new active h p =
      by_test (is_invalid number) h (λ _ a. abends old t _ reply new a p) (λ v k. elim k [ inl f ↦ fails _ old t _ reply new f.1 p | inr g ↦ lists (effective_task old.owners t number) number wants g.0 old new (asker old.owners t number active v) g.2 p ])

  frees : (o : Option ℕ) (old : State) (ps : List PlaceValue) (new : State) → AllByRecursion IsWhole ps → MayRelease old o ps → Frees old ps new → P old → P new
  frees o old ps new h1 h2 h3 h4 = grind (arith, common_steps)

  releases : (old : State) (t : Name) (form : Form) (number : ℕ) (ps : List PlaceValue) (reply : Reply) (new : State) → ReleaseStep old t form number ps reply new → P old → P new
  releases old t form number ps reply new h p =
      by_test (is_invalid number) h (λ _ a. abends old t _ reply new a p) (λ _ k. by_test (not (list_all on_doubleword ps)) k (λ _ a. abends old t _ reply new a p) (λ e m. choice (whole_places ps (not-false (list_all on_doubleword ps) e)) m)) where
        choice : AllByRecursion IsWhole (map whole ps) → (((MayRelease old (subpool_meant old.owners t number) (map whole ps) → ⊥) × Fails (is_conditional form) old t (not_held (family form)) reply new) ⊎ (MayRelease old (subpool_meant old.owners t number) (map whole ps) × (reply ≡ Rc0) × Frees old (map whole ps) new)) → P new
        choice w (inl f) = fails _ old t _ reply new f.1 p
        choice w (inr g) = frees (subpool_meant old.owners t number) old (map whole ps) new w g.0 g.2 p

  empties : (o : Option ℕ) (old new : State) → EmptiesEntry old o new → P old → P new
  empties None old new h p = subst P (sym h) p
  empties (Some s) old new h p = closed.emptied old s new h p

  releases_whole : (old : State) (t : Name) (form : Form) (number : ℕ) (reply : Reply) (new : State) → ReleaseWholeStep old t form number reply new → P old → P new
  releases_whole old t form number reply new h p =
      by_test (is_invalid number) h (λ _ a. abends old t _ reply new a p) (λ _ k. by_test (number == 0) k (λ _ a. abends old t _ reply new a p) (λ _ e. empties (subpool_meant old.owners t number) old new e.1 p))

  builds : (old : State) (t name : Name) (number : ℕ) (plan : Plan) (reply : Reply) (new : State) → is_active old.owners t ≡ true → IsPlan plan → BuildStep old t name number plan reply new → P old → P new
  builds old t name number plan reply new active r h p =
      by_test (is_invalid number) h (λ _ a. abends old t _ reply new a p)
      (λ v k. by_test (contains_key old.pools name) k (λ _ a. abends old t _ reply new a p)
      (λ fresh l. by_test (nat_le 64 (len old.pools)) l (λ _ a. abends old t _ reply new a p) (λ _ m. choice v fresh m))) where
        choice : is_invalid number ≡ false → contains_key old.pools name ≡ false → ((ShortOf old (effective_task old.owners t number) number (part_want plan.cell_size plan.primary plan.side) × Abends old t (short Located) reply new) ⊎ (Builds old (effective_task old.owners t number) name number plan new × (reply ≡ Rc0))) → P new
        choice v fresh (inl f) = abends old t _ reply new f.1 p
        choice v fresh (inr g) = let b = g.0 in closed.built old (effective_task old.owners t number) name number b.0 plan b.2.0 b.2.1 new fresh r (asker old.owners t number active v) b.1 b.2.2 b.2.3 p

  frees_cell : (o : Option Pool) (old : State) (t name : Name) (c : ℕ) (reply : Reply) (new : State) → get old.pools name ≡ o → FreeStep old t name c o reply new → P old → P new
  frees_cell None old t name c reply new e h p = abends old t _ reply new h p
  frees_cell (Some pool) old t name c reply new e h p =
      by_test (not (set.contains pool.taken c)) h (λ _ a. abends old t _ reply new a p) (λ has g. closed.given old name pool c new e (not-false (set.contains pool.taken c) has) g.1 p)

  deletes : (o : Option Pool) (old : State) (t name : Name) (reply : Reply) (new : State) → get old.pools name ≡ o → DeleteStep old t name o reply new → P old → P new
  deletes None old t name reply new e h p = abends old t _ reply new h p
  deletes (Some pool) old t name reply new e h p = closed.dropped old name pool new e h.1 p

  attaches : (refusal : Option Code) (old : State) (t name : Name) (gifts : GiftsValue) (residence : Residence) (reply : Reply) (new : State) → is_active old.owners t ≡ true → attach_refusal old.owners t name gifts ≡ refusal → AttachCase old t name gifts residence refusal reply new → P old → P new
  attaches (Some code) old t name gifts residence reply new active e h p = abends old t code reply new h p
  attaches None old t name gifts residence reply new active e h p = closed.attached old t name gifts residence new active e h.1 p

  returns : (old : State) (t : Name) (reply : Reply) (new : State) → ReturnStep old t reply new → P old → P new
  returns old t reply new h p = by_test (has_subtask old.owners t) h (λ _ a. abends old t _ reply new a p) (λ _ e. closed.ended old t new e.1 p)

  gets_none : (old : State) (t name : Name) (conditional : Bool) (pool : Pool) (reply : Reply) (new : State) → get old.pools name ≡ Some pool → GetsNone old t name conditional pool reply new → P old → P new
  gets_none old t name conditional pool reply new e h p = by_test conditional h (λ _ r. refuses old NoCell reply new r p) (λ _ m. choice m) where
    choice : ((NoPlace old.regions (holder old) pool.subpool (part_want pool.cell_size pool.secondary pool.side) × Abends old t (short Located) reply new) ⊎ GetsMore old name pool reply new) → P new
    choice (inl f) = abends old t _ reply new f.1 p
    choice (inr g) = let c = g.3 in closed.grown old name pool g.0 g.1 c.0 new e g.2 c.1 c.2.0 p

  gets : (o : Option Pool) (old : State) (t name : Name) (conditional : Bool) (reply : Reply) (new : State) → get old.pools name ≡ o → GetStep old t name conditional o reply new → P old → P new
  gets None old t name conditional reply new e h p = abends old t _ reply new h p
  gets (Some pool) old t name conditional reply new e (inl g) p = closed.taken old name pool g.0 new e g.1 g.2.0 p
  gets (Some pool) old t name conditional reply new e (inr f) p = gets_none old t name conditional pool reply new e f.1 p

  accesses : (old : State) (t : Name) (allowed : Bool) (done : Type 0) (reply : Reply) (new : State) → Accesses old t allowed done reply new → (allowed ≡ true → done → P old → P new) → P old → P new
  accesses old t allowed done reply new h f p = by_test (not allowed) h (λ _ a. abends old t _ reply new a p) (λ e d. f (not-false allowed e) d.1 p)

  acts : (old : State) (t : Name) (request : Request) (reply : Reply) (new : State) → is_active old.owners t ≡ true → HasPlan request → Acts old t request reply new → P old → P new
  acts old t (Obtain form number ask) reply new active r h p = obtains old t form number (want_of ask (side_for old t form ask.loc)) reply new active h p
  acts old t (ObtainList form number lengths start) reply new active r h p = obtains_list old t form number (map (λ n. fixed_want n start Below) lengths) reply new active h p
  acts old t (Release form number q) reply new active r h p = releases old t form number (q ∷ []) reply new h p
  acts old t (ReleaseList form number ps) reply new active r h p = releases old t form number ps reply new h p
  acts old t (ReleaseWhole form number) reply new active r h p = releases_whole old t form number reply new h p
  acts old t (Build name number size primary secondary loc) reply new active r h p =
      builds old t name number (record { cell_size = size; primary = primary; secondary = secondary; side = side_of loc (residence_of old.owners t) }) reply new active r h p
  acts old t (Get name conditional) reply new active r h p = gets (get old.pools name) old t name conditional reply new refl h p
  acts old t (Free name c) reply new active r h p = frees_cell (get old.pools name) old t name c reply new refl h p
  acts old t (Delete name) reply new active r h p = deletes (get old.pools name) old t name reply new refl h p
  acts old t (Attach name gifts residence) reply new active r h p = attaches (attach_refusal old.owners t name gifts) old t name gifts residence reply new active refl h p
  acts old t Return reply new active r h p = returns old t reply new h p
  acts old t (Abend n) reply new active r h p = abends old t _ reply new h p
  acts old t (Show a n) reply new active r h p = accesses old t (all_granted old (place_at a n)) (new ≡ old) reply new h (λ _ e k. subst P (sym e) k) p
  acts old t (Put a bytes) reply new active r h p = accesses old t (all_granted old (place_at a (length bytes))) _ reply new h (λ e w k. closed.written old (place_at a (length bytes)) (bytes_from a bytes) new e (bytes_put old a bytes) w k) p
  acts old t (Move to from n) reply new active r h p =
      accesses old t (all_granted old (place_at to n) && all_granted old (place_at from n)) _ reply new h (λ e w k. closed.written old (place_at to n) (moved_from old to from) new (first_so _ _ e) (moved_granted old to from n e) w k) p

  -- what stays through each of the changes stays through each step
  pub step_keeps : (old : State) (t : Name) (request : Request) (reply : Reply) (new : State) → HasPlan request → Step old t request reply new → P old → P new
  step_keeps old t request reply new r h p = by_test (not (is_active old.owners t)) (step_cases old t request reply new h) (λ _ k. refuses old NotRun reply new k p) (λ e k. acts old t request reply new (not-false (is_active old.owners t) e) r k p)
