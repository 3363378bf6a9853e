-- The steps of the machine: a request is refused or done, what it is answered, and which state it leaves.
use Rattle.std.specs.Prelude.{◌≡◌, ◌⊎◌, ℕ, List, [], ◌∷◌, length, map, Option, Some, None, Result, MatchResult}
use Rattle.std.specs.FinMap.{get}
use Rattle.mvs_model.specs.declared.name.Name.{Name}
use Rattle.mvs_model.specs.declared.want.Side.TheVariants.{Below}
use Rattle.mvs_model.specs.declared.request.Request.{Request}
use Rattle.mvs_model.specs.declared.request.Request.TheVariants.{Obtain, ObtainList, Release, ReleaseList, ReleaseWhole, Build, Get, Free, Delete, Attach, Return, Abend, Show, Put, Move}
use Rattle.mvs_model.specs.declared.request.Reply.{Reply}
use Rattle.mvs_model.specs.declared.request.Reply.TheVariants.{Rc0, Obtained, Listed, Attached, Ended, Done}
use Rattle.mvs_model.specs.declared.refusal.Refusal.{Refusal}
use Rattle.mvs_model.specs.Place.{PlaceValue, place_at}
use Rattle.mvs_model.specs.Want.{want_of, fixed_want, side_of}
use Rattle.mvs_model.specs.Owners.{effective_task, subpool_meant}
use Rattle.mvs_model.specs.Pools.{Pool, IsFreeCell, part_want}
use Rattle.mvs_model.specs.State.{State}
use Rattle.mvs_model.specs.Changes.{GrantTo, ListGrant, Frees, End, GivesCell, DropsPool, Writes}
use Rattle.mvs_model.specs.Requests.{Plan, whole, residence_of, side_for, EmptiesEntry, Builds, Gets, GetsMore, Attaches, bytes_from, moved_from}
use Rattle.mvs_model.specs.Causes.{IsRefused, IsPassed, NoneFree, Passed, Refused, build_causes, causes_of}
use Rattle.mvs_model.specs.Consequences.{reply_to, Settles}

-- A free cell of the pool is taken, or, where none is free, one of a further part.
abbrev pub TakesSome : State → Name → Option Pool → Reply → State → Type 0
TakesSome old name None reply new = ⊥
TakesSome old name (Some pool) reply new = ((c : ℕ) × IsFreeCell pool c × Gets old name pool c reply new) ⊎ (NoneFree pool × GetsMore old name pool reply new)

-- The cell is given back to the pool.
abbrev pub GivesBack : State → Name → ℕ → Option Pool → State → Type 0
GivesBack old name c None new = ⊥
GivesBack old name c (Some pool) new = GivesCell old name pool c new

-- The pool is deleted.
abbrev pub Deletes : State → Name → Option Pool → State → Type 0
Deletes old name None new = ⊥
Deletes old name (Some pool) new = DropsPool old name pool new

-- What a request that is not refused does, and what it is answered.
abbrev pub Does : State → Name → Request → Reply → State → Type 0
Does old t (Obtain form number ask) reply new =
    (p : PlaceValue) × (reply ≡ Obtained p) × GrantTo old (effective_task old.owners t number) number (want_of ask (side_for old t form ask.loc)) p new
Does old t (ObtainList form number lengths start) reply new =
    (ps : List PlaceValue) × (reply ≡ Listed ps) × ListGrant old (effective_task old.owners t number) number (map (λ n. fixed_want n start Below) lengths) ps new
Does old t (Release form number p) reply new = (reply ≡ Rc0) × Frees old (whole p ∷ []) new
Does old t (ReleaseList form number ps) reply new = (reply ≡ Rc0) × Frees old (map whole ps) new
Does old t (ReleaseWhole form number) reply new = (reply ≡ Rc0) × EmptiesEntry old (subpool_meant old.owners t number) new
Does old t (Build name number size primary secondary loc) reply new =
    (reply ≡ Rc0) × Builds old (effective_task old.owners t number) name number (record { cell_size = size; primary = primary; secondary = secondary; side = side_of loc (residence_of old.owners t) }) new
Does old t (Get name conditional) reply new = TakesSome old name (get old.pools name) reply new
Does old t (Free name c) reply new = (reply ≡ Rc0) × GivesBack old name c (get old.pools name) new
Does old t (Delete name) reply new = (reply ≡ Rc0) × Deletes old name (get old.pools name) new
Does old t (Attach name gifts residence) reply new = (reply ≡ Attached) × Attaches old t name gifts residence new
Does old t Return reply new = (reply ≡ Ended) × End old t new
Does old t (Abend n) reply new = ⊥
Does old t (Show a n) reply new = (reply ≡ Done) × (new ≡ old)
Does old t (Put a bytes) reply new = (reply ≡ Done) × Writes old (place_at a (length bytes)) (bytes_from a bytes) new
Does old t (Move to from n) reply new = (reply ≡ Done) × Writes old (place_at to n) (moved_from old to from) new

-- A request is refused, and this has its consequence; or it passes, and is done.
abbrev pub Step : State → Name → Request → Reply → State → Type 0
Step old t request reply new =
    ((refusal : Refusal) × IsRefused old t request refusal × Settles old t (reply_to request refusal) reply new)
    ⊎ (IsPassed old t request × Does old t request reply new)

-- What an attempt at a request comes to: it passes all causes and is done, or it is refused, and nothing has changed. What it
-- is answered is read off the result.
abbrev pub Attempts : {A : Type 0} → (A → Reply) → State → Name → Request → Result A Refusal → State → Type 0
Attempts reply_of old t request result new = MatchResult result
    (λ a. IsPassed old t request × Does old t request (reply_of a) new)
    (λ refusal. IsRefused old t request refusal × (new ≡ old))

-- An attempt of an active task.
abbrev pub Tries : {A : Type 0} → (A → Reply) → State → Name → Request → Result A Refusal → State → Type 0
Tries reply_of old t request result new = MatchResult result
    (λ a. Passed (causes_of old t request) × Does old t request (reply_of a) new)
    (λ refusal. Refused (causes_of old t request) refusal × (new ≡ old))

-- An attempt of CPOOL BUILD, by its plan.
abbrev pub TriesPlan : State → Name → Name → ℕ → Plan → Result (Unit {0}) Refusal → State → Type 0
TriesPlan old t name number plan result new = MatchResult result
    (λ _. Passed (build_causes old t name number (part_want plan.cell_size plan.primary plan.side)) × Builds old (effective_task old.owners t number) name number plan new)
    (λ refusal. Refused (build_causes old t name number (part_want plan.cell_size plan.primary plan.side)) refusal × (new ≡ old))
