-- The places that the requests of a run are granted, and what they leave open.
use Rattle.std.specs.Prelude.{◌≡◌, ◌≢◌, ℕ, Bool, true, false, List, [], ◌∷◌, ◌++◌, map, Option, Some, None, ◌⊎◌, nat_le}
use Rattle.std.specs.List.{list_all}
use Rattle.std.specs.FinMap.{get}
use Rattle.mvs_model.specs.declared.name.Name.{Name}
use Rattle.mvs_model.specs.declared.code.Form.{Form}
use Rattle.mvs_model.specs.declared.code.Form.TheVariants as form
use Rattle.mvs_model.specs.declared.want.Side.TheVariants.{Below}
use Rattle.mvs_model.specs.declared.want.Residence.TheVariants as residence
use Rattle.mvs_model.specs.declared.outcome.Outcome.{Outcome}
use Rattle.mvs_model.specs.declared.request.Request.{Request}
use Rattle.mvs_model.specs.declared.request.Request.TheVariants as request
use Rattle.mvs_model.specs.declared.request.Reply.{Reply}
use Rattle.mvs_model.specs.declared.request.Reply.TheVariants.{Rc4, Obtained, Listed}
use Rattle.mvs_model.specs.Place.{PlaceValue}
use Rattle.mvs_model.specs.Want.{AskValue, WantValue, want_of, fixed_want}
use Rattle.mvs_model.specs.Changes.{GrantTo, ShortOf}
use Rattle.mvs_model.specs.Owners.{effective_task}
use Rattle.mvs_model.specs.Pools.{Pool}
use Rattle.mvs_model.specs.State.{State}
use Rattle.mvs_model.specs.Start.{start}
use Rattle.mvs_model.specs.Steps.{Step}
use Rattle.mvs_model.specs.Requests.{IsRequest, side_for}
use Rattle.mvs_model.specs.Lines.{lines_of, card_of}
use Rattle.mvs_model.specs.Resolving.{places_in}
use Rattle.mvs_model.specs.Answers.{Event}
use Rattle.mvs_model.specs.Walk.{Walks, JobEnds}
use Rattle.mvs_model.specs.Runs.{Condition, machine_where, IsRun}

-- the addresses of the places that a reply grants
abbrev pub granted_at : Reply → List ℕ
granted_at reply = map (λ p. p.addr) (places_in reply)

-- the addresses of the parts of a pool, where it is there
abbrev pub parts_at : Option Pool → List ℕ
parts_at None = []
parts_at (Some pool) = map (λ part. part.place.addr) pool.parts

-- the addresses that a step picks: those of the places that its reply grants, and those of the parts of the pool after a request
-- that may add one. (no reply shows where a part is)
abbrev pub picked : Request → Reply → State → List ℕ
picked (request.Build name number size primary secondary loc) reply new = parts_at (get new.pools name)
picked (request.Get name conditional) reply new = granted_at reply ++ parts_at (get new.pools name)
picked _ reply new = granted_at reply

-- The addresses that a step picks determine its reply and the state that it leaves.
abbrev pub OneStep : Type 0
OneStep =
    (old : State) (t : Name) (r : Request) (one other : Reply) (a b : State)
    → Step old t r one a → Step old t r other b → picked r one a ≡ picked r other b → (one ≡ other) × (a ≡ b)

-- whether a request is for a list
abbrev pub is_list : Request → Bool
is_list (request.ObtainList form number lengths start) = true
is_list _ = false

-- the addresses that a step grants: of the places that its reply grants, and of the parts of the pool that it builds
abbrev pub granted_by : Request → Reply → State → List ℕ
granted_by (request.Build name number size primary secondary loc) reply new = parts_at (get new.pools name)
granted_by _ reply new = granted_at reply

-- If a request that is not for a list may be refused, it is not granted, wherever places are.
abbrev pub NothingPicked : Type 0
NothingPicked =
    (old : State) (t : Name) (r : Request) (one other : Reply) (a b : State)
    → is_list r ≡ false → IsRequest r → Step old t r one a → Step old t r other b → granted_by r one a ≡ [] → granted_by r other b ≡ []

-- a step of one page below
abbrev pub one_page : Name → State
one_page t = start (card_of t 1 0 0 residence.Below)

-- 8 and 4088 bytes of subpool 0, on doublewords
abbrev pub page_list : Request
page_list = request.ObtainList form.Lc 0 (8 ∷ 4088 ∷ []) 3

-- For a list this is different: the places of its first members can decide whether the next one fits. Two members that fill an
-- empty page may be granted, and may be refused.
pub record ListEitherWay : Type 0 where
  pub refused : (t : Name) → Step (one_page t) t page_list Rc4 (one_page t)
  pub granted : (t : Name) → (ps : List PlaceValue) × (new : State) × Step (one_page t) t page_list (Listed ps) new

-- What a line's request may do, by the addresses of an entry for the line.
abbrev pub Entered : Type 1
Entered = List ℕ → Condition

-- The events are of a run of the script whose steps meet the condition, each with the entry of its line.
abbrev pub IsRunWhere : Entered → (ℕ → List ℕ) → List ℕ → List Event → Outcome → Type 0
IsRunWhere P entries script events outcome =
    Walks (machine_where (λ number. P (entries number))) (JobEnds (machine_where (λ number. P (entries number))) outcome) 1 None (lines_of script) events

-- The step picks the addresses of the entry.
abbrev pub Picks : Entered
Picks at old t r reply new = picked r reply new ≡ at

-- Each run is one that picks some addresses, and what picks addresses is a run.
pub record HasPlaces : Type 0 where
  pub some : (script : List ℕ) (events : List Event) (outcome : Outcome) → IsRun script events outcome → (entries : ℕ → List ℕ) × IsRunWhere Picks entries script events outcome
  pub is : (entries : ℕ → List ℕ) (script : List ℕ) (events : List Event) (outcome : Outcome) → IsRunWhere Picks entries script events outcome → IsRun script events outcome

-- A run is determined by the addresses that its lines pick.
abbrev pub PlacesDetermine : Type 0
PlacesDetermine =
    (entries : ℕ → List ℕ) (script : List ℕ) (one other : List Event) (o p : Outcome)
    → IsRunWhere Picks entries script one o → IsRunWhere Picks entries script other p → (one ≡ other) × (o ≡ p)

-- The step picks the addresses of the entry, and nothing only where nothing can be picked: it refuses no list that could be
-- granted.
abbrev pub Needs : Entered
Needs at old t r reply new = (picked r reply new ≡ at) × (at ≡ [] → (other : Reply) (later : State) → Step old t r other later → picked r other later ≡ [])

-- The step picks the hinted addresses, if some step does.
abbrev pub Obeys : Entered
Obeys hints old t r reply new = hints ≢ [] → (other : Reply) (later : State) → Step old t r other later → picked r other later ≡ hints → picked r reply new ≡ hints

-- A run that obeys the addresses of another one, which refuses no list that could be granted, has the same events.
abbrev pub HintsDecide : Type 0
HintsDecide =
    (entries : ℕ → List ℕ) (script : List ℕ) (one other : List Event) (o p : Outcome)
    → IsRunWhere Needs entries script one o → IsRunWhere Obeys entries script other p → (one ≡ other) × (o ≡ p)

-- A grant uses the hinted address, if a place there can be granted.
abbrev pub FollowsHint : State → Name → ℕ → WantValue → ℕ → PlaceValue → Type 0
FollowsHint old t number want hints p = (q : PlaceValue) (later : State) → GrantTo old t number want q later → q.addr ≡ hints → p.addr ≡ hints

-- Grants one after another, each of which uses its hint.
abbrev pub ListFollowsHints : State → Name → ℕ → List WantValue → List ℕ → List PlaceValue → State → Type 0
ListFollowsHints old t number [] hints [] new = new ≡ old
ListFollowsHints old t number [] hints (p ∷ ps) new = ⊥
ListFollowsHints old t number (want ∷ wants) hints [] new = ⊥
ListFollowsHints old t number (want ∷ wants) [] (p ∷ ps) new = ⊥
ListFollowsHints old t number (want ∷ wants) (a ∷ hints) (p ∷ ps) new =
    (mid : State) × GrantTo old t number want p mid × FollowsHint old t number want a p × ListFollowsHints mid t number wants hints ps new

-- Such grants for some of the front leave no place for the next.
abbrev pub ListStops : State → Name → ℕ → List WantValue → List ℕ → Type 0
ListStops old t number [] hints = ⊥
ListStops old t number (want ∷ wants) [] = ⊥
ListStops old t number (want ∷ wants) (a ∷ hints) =
    ShortOf old t number want ⊎ ((p : PlaceValue) × (mid : State) × GrantTo old t number want p mid × FollowsHint old t number want a p × ListStops mid t number wants hints)

-- A request for an area obeys if it uses its hint. A request for a list obeys if each member does, and it is refused only if no
-- list can be granted at these addresses.
pub record TakingObeys : Type 0 where
  pub area : (old : State) (t : Name) (form : Form) (number : ℕ) (ask : AskValue) (a : ℕ) (p : PlaceValue) (new : State)
      → FollowsHint old (effective_task old.owners t number) number (want_of ask (side_for old t form ask.loc)) a p → Obeys (a ∷ []) old t (request.Obtain form number ask) (Obtained p) new
  pub areas : (old : State) (t : Name) (form : Form) (number : ℕ) (lengths : List ℕ) (start : ℕ) (hints : List ℕ) (ps : List PlaceValue) (new : State)
      → ListFollowsHints old (effective_task old.owners t number) number (map (λ n. fixed_want n start Below) lengths) hints ps new → Obeys hints old t (request.ObtainList form number lengths start) (Listed ps) new
  pub stops : (old : State) (t : Name) (form : Form) (number : ℕ) (lengths : List ℕ) (start : ℕ) (hints : List ℕ) (reply : Reply) (new : State)
      → list_all (λ n. nat_le 1 n) lengths ≡ true → ListStops old (effective_task old.owners t number) number (map (λ n. fixed_want n start Below) lengths) hints → Obeys hints old t (request.ObtainList form number lengths start) reply new
