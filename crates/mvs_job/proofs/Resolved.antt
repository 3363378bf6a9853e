-- Requests as they are written, and what they mean.
use Rattle.std.proofs.Common.{◌≡◌, ℕ, ◌+◌, ◌-◌, ◌<◌, inl, inr, Bool, true, false, List, [], ◌∷◌, map, Option, Some, None, refl, ap, sym, subst, ◌∙◌, ◌≤◌, arith, length, suc, add-zero}
use Rattle.std.specs.Prelude.{All, not, slice_get, unwrap_or}
use Rattle.std.specs.Bool.{MatchBool}
use Rattle.std.specs.List.{AllByRecursion}
use Rattle.std.specs.FinMap.{FinMap, get}
use Rattle.std.proofs.lemmas.List.Elements.{All-nil, All-cons}
use Rattle.mvs_model.proofs.StepCases.{step_cases}
use Rattle.mvs_model.specs.declared.name.Name.{Name}
use Rattle.mvs_model.specs.declared.code.Form.{Form}
use Rattle.mvs_model.specs.declared.code.Code.{Code}
use Rattle.mvs_model.specs.declared.line.SourceRequest.{SourceRequest}
use Rattle.mvs_model.specs.declared.line.SourceRequest.TheVariants as written
use Rattle.mvs_model.specs.declared.request.Request.{Request}
use Rattle.mvs_model.specs.declared.request.Request.TheVariants as request
use Rattle.mvs_model.specs.declared.request.Reply.{Reply}
use Rattle.mvs_model.specs.declared.request.Reply.TheVariants.{NotRun, Rc4, Done, Abended}
use Rattle.mvs_model.specs.Name.{name_cmp}
use Rattle.mvs_model.specs.Place.{PlaceValue, place_at}
use Rattle.mvs_model.specs.Want.{WantValue, fixed_want, want_of}
use Rattle.mvs_model.specs.declared.want.Side.TheVariants.{Below}
use Rattle.mvs_model.specs.Storage.{Regions, InRegion}
use Rattle.mvs_model.specs.State.{State, granted}
use Rattle.mvs_model.specs.Changes as changes
use Rattle.mvs_model.specs.Pools.{Pool, cell_at}
use Rattle.mvs_model.specs.Steps.{Step}
use Rattle.mvs_model.specs.Consequences.{Abends}
use Rattle.mvs_model.proofs.ByCase.{Fails, ObtainStep, ObtainListStep, GetsNone, GetStep, Accesses}
use Rattle.mvs_model.specs.Requests.{Gets, all_granted, is_invalid, side_for}
use Rattle.mvs_model.specs.Codes.{is_conditional}
use Rattle.mvs_model.specs.Owners.{is_active, effective_task}
use Rattle.mvs_model.specs.declared.answer.Answer.{Answer as Short}
use Rattle.mvs_model.specs.declared.answer.Answer.TheVariants as short
use Rattle.mvs_model.specs.Answers.{Data}
use Rattle.mvs_model.specs.Replies.{answer_of, bytes_at}
use Rattle.mvs_model.specs.Resolving.{resolved, names_set, places_in}
use Rattle.mvs_model.specs.Lines.{IsWritten}
use Rattle.mvs_laws.proofs.Requested.{is_request}
use Rattle.mvs_laws.proofs.RegionsKept.{grant_inside, list_inside}
use Rattle.mvs_model.proofs.SeenAccess.{below_each}
use Rattle.mvs_model.specs.View.{IsBounded}
use Rattle.job_script.specs.Areas.{IsArea, Fit}
use Rattle.mvs_job.specs.Steady.{IsSteady}
use Rattle.mvs_job.specs.LineEvents.{IsAvailableIn}
use Rattle.mvs_job.proofs.Steady.{takes_area, steady_step}

some_same : {A : Type 0} → (x y : A) → Some x ≡ Some y → x ≡ y
some_same x y e = cc

-- what lies in a region is an area
area_in : (r : Regions) (p : PlaceValue) → IsBounded r → InRegion r p → IsArea p
area_in r p b (inl below) = let low = b.below in let h = below.1 in omega arith
area_in r p b (inr above) = let low = b.above in let h = above.1 in omega arith

all_in : (r : Regions) (ps : List PlaceValue) → IsBounded r → AllByRecursion (InRegion r) ps → All IsArea ps
all_in r [] b h = All-nil IsArea
all_in r (p ∷ ps) b h = All-cons IsArea p ps (area_in r p b h.0) (all_in r ps b h.1)

-- the places that a reply gives are areas
abbrev Areas : Reply → Type 0
Areas reply = All IsArea (places_in reply)

no_areas : (reply answer : Reply) → reply ≡ answer → places_in answer ≡ [] → Areas reply
no_areas reply answer is e = subst Areas (sym is) (subst (All IsArea) (sym e) (All-nil IsArea))

abend_areas : (old : State) (t : Name) (code : Code) (reply : Reply) (new : State) → Abends old t code reply new → Areas reply
abend_areas old t code reply new h = no_areas reply (Abended code h.0.fallen) h.1 refl

fail_areas : (b : Bool) (old : State) (t : Name) (code : Code) (reply : Reply) (new : State) → Fails b old t code reply new → Areas reply
fail_areas true old t code reply new h = no_areas reply Rc4 h.0 refl
fail_areas false old t code reply new h = abend_areas old t code reply new h

by_test : {P Q R : Type 0} (b : Bool) → MatchBool b P Q → (P → R) → (Q → R) → R
by_test true h p q = p h
by_test false h p q = q h

one_area : (p : PlaceValue) → IsArea p → All IsArea (p ∷ [])
one_area p is = All-cons IsArea p [] is (All-nil IsArea)

-- a reply to a request that obtains gives areas
obtain_areas : (old : State) (t : Name) (form : Form) (number : ℕ) (want : WantValue) (reply : Reply) (new : State) → IsBounded old.regions → ObtainStep old t form number want reply new → Areas reply
obtain_areas old t form number want reply new b h =
    by_test (is_invalid number) h (λ a. abend_areas old t _ reply new a)
    (λ k. elim k [
      | inl f ↦ fail_areas (is_conditional form) old t _ reply new f.1
      | inr g ↦ subst Areas (sym g.1) (one_area g.0 (area_in old.regions g.0 b (grant_inside old (effective_task old.owners t number) number want g.0 new g.2)))
    ])

obtain_list_areas : (old : State) (t : Name) (form : Form) (number : ℕ) (wants : List WantValue) (reply : Reply) (new : State) → IsBounded old.regions → ObtainListStep old t form number wants reply new → Areas reply
obtain_list_areas old t form number wants reply new b h =
    by_test (is_invalid number) h (λ a. abend_areas old t _ reply new a)
    (λ k. elim k [
      | inl f ↦ fail_areas (is_conditional form) old t _ reply new f.1
      | inr g ↦ subst Areas (sym g.1) (all_in old.regions g.0 b (list_inside old.regions (effective_task old.owners t number) number wants g.0 old new refl g.2))
    ])

-- so does one that gets a cell
cell_areas : (old new mid : State) (name : Name) (pool : Pool) (c : ℕ) (reply : Reply) → IsSteady new → Gets mid name pool c reply new → Areas reply
cell_areas old new mid name pool c reply s g = subst Areas (sym g.1) (one_area (cell_at pool c) (takes_area mid new name pool c s g.0))

get_areas : (old : State) (t : Name) (name : Name) (conditional : Bool) (pool : Option Pool) (reply : Reply) (new : State) → IsSteady new → GetStep old t name conditional pool reply new → Areas reply
get_areas old t name conditional None reply new s h = abend_areas old t _ reply new h
get_areas old t name conditional (Some pool) reply new s (inl free) = cell_areas old new old name pool free.0 reply s free.2
get_areas old t name conditional (Some pool) reply new s (inr none) = none_free conditional none.1 where
  none_free : (b : Bool) → GetsNone old t name b pool reply new → Areas reply
  none_free true k = no_areas reply _ k.0 refl
  none_free false (inl short) = abend_areas old t _ reply new short.1
  none_free false (inr more) = cell_areas old new more.1 name _ more.3.0 reply s more.3.2

-- the names that a request sets fit the places that its reply gives
pub areas_fit : (names : FinMap name_cmp PlaceValue) (a : SourceRequest) (r : Request) (old : State) (t : Name) (reply : Reply) (new : State) → resolved names a ≡ Some r → IsBounded old.regions → IsSteady new → Step old t r reply new → Fit (names_set a) (places_in reply)
areas_fit names (written.Obtain form number ask variable area) r old t reply new e limits steady step =
    by_test (not (is_active old.owners t)) (step_cases old t (request.Obtain form number ask) reply new (subst (λ r. Step old t r reply new) (sym (some_same _ r e)) step)) (λ k. no_areas reply NotRun k.0 refl) (λ k. obtain_areas old t form number (want_of ask (side_for old t form ask.loc)) reply new limits k)
areas_fit names (written.ObtainList form number lengths start areas) r old t reply new e limits steady step =
    all_fit areas (by_test (not (is_active old.owners t)) (step_cases old t (request.ObtainList form number lengths start) reply new (subst (λ r. Step old t r reply new) (sym (some_same _ r e)) step)) (λ k. no_areas reply NotRun k.0 refl) (λ k. obtain_list_areas old t form number (map (λ n. fixed_want n start Below) lengths) reply new limits k)) where
      all_fit : (names : List Name) → Areas reply → Fit names (places_in reply)
      all_fit [] all = tt
      all_fit (n ∷ ns) all = all
areas_fit names (written.Get pool conditional cell) r old t reply new e limits steady step =
    by_test (not (is_active old.owners t)) (step_cases old t (request.Get pool conditional) reply new (subst (λ r. Step old t r reply new) (sym (some_same _ r e)) step)) (λ k. no_areas reply NotRun k.0 refl) (λ k. get_areas old t pool conditional (get old.pools pool) reply new steady k)
areas_fit names a r old t reply new e limits steady step = tt

-- each byte may be read where all may
each_granted : (st : State) (p : PlaceValue) → all_granted st p ≡ true → changes.Granted st p
each_granted st p e a low high = ap (granted st) (let same : a ≡ p.addr + (a - p.addr) = omega arith in same) ∙ below_each (λ i. granted st (p.addr + i)) p.len e (a - p.addr) (omega arith)

-- the bytes of a place, read one by one
pub bytes_read : (st : State) (a : ℕ) (bytes : List ℕ) → ((k : ℕ) → k < length bytes → slice_get bytes k ≡ get st.bytes (a + k)) → bytes_at st a (length bytes) ≡ bytes
unfolding bytes_at
bytes_read st a [] h = refl
bytes_read st a (b ∷ bs) h =
    let first : get st.bytes a ≡ Some b = ap (get st.bytes) (sym (add-zero a)) ∙ sym (h 0 (omega arith)) in
    let rest = bytes_read st (a + 1) bs (λ k l. h (suc k) (omega arith) ∙ ap (get st.bytes) (let e : a + suc k ≡ a + 1 + k = omega arith in e)) in
    λ i. unwrap_or (first i) 0 ∷ rest i

-- the bytes that were read are those of the place
pub place_read : (st : State) (p : PlaceValue) (bytes : List ℕ) → length bytes ≡ p.len → ((k : ℕ) → k < p.len → slice_get bytes k ≡ get st.bytes (p.addr + k)) → bytes ≡ bytes_at st p.addr p.len
place_read st p bytes long each = sym (bytes_read st p.addr bytes (λ k l. each k (subst (λ n. k < n) long l))) ∙ ap (bytes_at st p.addr) long

-- where SHOW is done, the bytes may be read and nothing has changed
shown_granted : (old : State) (t : Name) (p : PlaceValue) (new : State) → Step old t (request.Show p.addr p.len) Done new → changes.Granted new p × (new ≡ old)
shown_granted old t p new step =
    by_test (not (is_active old.owners t)) (step_cases old t (request.Show p.addr p.len) Done new step) (λ k. absurd (let f = k.0 in cc))
    (λ k. read_all (all_granted old p) refl k) where
      read_all : (b : Bool) → all_granted old p ≡ b → Accesses old t b (new ≡ old) Done new → changes.Granted new p × (new ≡ old)
      read_all false e h = absurd (let f = h.1 in cc)
      read_all true e h = (subst (λ st. changes.Granted st p) (sym h.1) (each_granted old p e), h.1)

-- what a reply tells is the same before and after its step
pub answer_same : (old : State) (t : Name) (a : SourceRequest) (r : Request) (reply : Reply) (new : State) → Step old t r reply new → answer_of new a r reply ≡ answer_of old a r reply
answer_same old t a (request.Show from n) Done new step = ap (λ st. Data (bytes_at st from n)) (shown_granted old t (place_at from n) new step).1
answer_same old t a r reply new step = refl

-- an answer that speaks of bytes speaks of such that may be read
lent_by : (st : State) (a : Short) → ((p : PlaceValue) → a ≡ short.Data p → changes.Granted st p × (p.len ≤ 4096)) → IsAvailableIn st a
lent_by st (short.Data p) h = h p refl
lent_by st a h = tt

pub answer_lent : (old : State) (t : Name) (r : Request) (reply : Reply) (new : State) (a : Short) → Step old t r reply new → ((p : PlaceValue) → a ≡ short.Data p → (r ≡ request.Show p.addr p.len) × (reply ≡ Done) × (p.len ≤ 4096)) → IsAvailableIn new a
answer_lent old t r reply new a step h = lent_by new a (λ p e.
    let is = h p e in
    ((shown_granted old t p new (subst (λ q. Step old t (request.Show p.addr p.len) q new) is.1 (subst (λ q. Step old t q reply new) is.0 step))).0, is.2))

-- what is asked keeps what the state of a job keeps
pub steady_after : (names : FinMap name_cmp PlaceValue) (a : SourceRequest) (r : Request) (old : State) (t : Name) (reply : Reply) (new : State) → IsWritten a → resolved names a ≡ Some r → IsSteady old → Step old t r reply new → IsSteady new
steady_after names a r old t reply new b is steady step = steady_step old t r reply new (is_request names a r b is) step steady
