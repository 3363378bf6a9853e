-- No name in the events of a run has a line feed: those of the tasks come from lines, and a line has none.
use Rattle.std.proofs.Common.{◌≡◌, ℕ, suc, ◌+◌, ◌*◌, ◌<◌, ◌==◌, inl, inr, Bool, true, false, not, nat_le, cond, is_some, List, [], ◌∷◌, ◌++◌, length, Contains, arith, Option, Some, None, refl, sym, ap, ◌∙◌, subst}
use Rattle.std.specs.List.{AllByRecursion, list_all}
use Rattle.std.specs.FinMap.{FinMap, contains_key, empty, get, gets, len}
use Rattle.std.specs.FinSet as set
use Rattle.std.proofs.lemmas.Bool.Decides.{nat_tests}
use Rattle.mvs_model.proofs.StepCases.{step_cases}
use Rattle.mvs_model.specs.declared.code.Code.{Code}
use Rattle.mvs_model.specs.declared.code.Form.{Form}
use Rattle.mvs_model.specs.declared.name.Name.{Name}
use Rattle.mvs_model.specs.declared.outcome.Outcome.{Outcome}
use Rattle.mvs_model.specs.declared.request.Reply.{Reply}
use Rattle.mvs_model.specs.declared.request.Reply.TheVariants as reply
use Rattle.mvs_model.specs.declared.request.Request.{Request}
use Rattle.mvs_model.specs.declared.request.Request.TheVariants as request
use Rattle.mvs_model.specs.Changes.{End, ListGrant, with_part}
use Rattle.mvs_model.specs.Lines.{IsUnended, card_of, lines_of}
use Rattle.mvs_model.specs.Owners.{Task, Descends, Enters, subpool_meant, has_subtask, is_active, effective_task, subtask, further}
use Rattle.mvs_model.proofs.ByCase.{attach_refusal}
use Rattle.mvs_model.specs.Gifts.{GiftsValue}
use Rattle.mvs_model.specs.declared.want.Residence.{Residence}
use Rattle.mvs_model.specs.Name.{name_cmp, same_name}
use Rattle.mvs_model.proofs.Orders.{same_name_is}
use Rattle.mvs_model.specs.Place.{PlaceValue}
use Rattle.mvs_model.specs.Pools.{Pool, cell_at}
use Rattle.mvs_model.specs.State.{State}
use Rattle.mvs_model.specs.Consequences.{Abends}
use Rattle.mvs_model.proofs.ByCase.{Acts, AttachCase, BuildStep, DeleteStep, Fails, FreeStep, GetStep, ObtainListStep, ObtainStep, GetsNone, Accesses, ReleaseStep, ReleaseWholeStep, ReturnStep}
use Rattle.mvs_model.specs.Requests.{Attaches, Plan, is_invalid, on_doubleword, EmptiesEntry}
use Rattle.mvs_model.specs.Steps.{Step}
use Rattle.mvs_model.specs.Want.{WantValue}
use Rattle.mvs_model.specs.declared.line.Line.{Line}
use Rattle.mvs_model.specs.declared.line.Line.TheVariants as line
use Rattle.mvs_model.specs.declared.line.Statement.{Statement}
use Rattle.mvs_model.specs.declared.line.Statement.TheVariants as says
use Rattle.mvs_model.specs.declared.line.SourceRequest.{SourceRequest}
use Rattle.std.specs.Option.{option_map, option_and_then}
use Rattle.mvs_model.specs.Answers.{Answer, NoName, NotRun, Event}
use Rattle.mvs_laws.specs.Laws.{StaysWellFormed}
use Rattle.mvs_model.specs.Card.{CardValue}
use Rattle.mvs_model.specs.Job.{JobValue}
use Rattle.mvs_model.specs.Numbers.{above_begins, below_begins, first_page_above, first_page_below, page_bytes}
use Rattle.mvs_model.specs.Replies.{answer_of, where_answer}
use Rattle.mvs_model.specs.Reports.{PageRun, label_of, map_runs, number_of, page_map, page_runs}
use Rattle.mvs_model.specs.declared.report.MapRun.{MapRun}
use Rattle.mvs_model.specs.Resolving.{resolved}
use Rattle.mvs_model.specs.Runs.{Any, Asks, Does, IsPrinting, IsRun, AnswersTo, OnlyAnswers, machine}
use Rattle.mvs_model.specs.Start.{start}
use Rattle.mvs_model.specs.Walk.{Closes, JobEnds, Serves, Walks, ending}
use Rattle.mvs_model.specs.WellFormed.{WellFormed}
use Rattle.mvs_laws.specs.Going.{Holds, Reaches}
use Rattle.mvs_laws.proofs.Kept.{enters_tasks}
use Rattle.mvs_laws.proofs.Going.{reaches_next}
use Rattle.mvs_model.proofs.Made.{made_at}
use Rattle.mvs_laws.proofs.Walking.{Turns, served_first, served_in}
use Rattle.mvs_job.specs.Explaining.{without_starred}
use Rattle.mvs_job.proofs.ReadNames.{AttachesUnended, NamesUnended, SaysUnended, names_unended}
use Rattle.mvs_job.proofs.StandingLines.{AnswerUnended, EventUnended, HolderUnended, printing_stands}
use Rattle.mvs_model.proofs.Tests.{by_case, by_test, kept_passes, true_false}

-- ---- what a request does to the tasks

-- No active task's name has a line feed.
abbrev pub TasksUnended : State → Type 0
TasksUnended st = (x : Name) → is_active st.owners x ≡ true → IsUnended x

-- The name of the subtask has none, where the request is ATTACH.
abbrev pub RequestUnended : Request → Type 0
RequestUnended (request.Attach name gifts residence) = IsUnended name
RequestUnended _ = Unit {0}

-- The tasks that fall have none in their names.
abbrev pub ReplyUnended : Reply → Type 0
ReplyUnended (reply.Abended code fallen) = AllByRecursion IsUnended fallen
ReplyUnended _ = Unit {0}

each_of : (names : List Name) → ((x : Name) → Contains names x → IsUnended x) → AllByRecursion IsUnended names
each_of [] f = tt
each_of (x ∷ names) f = (f x (0, omega arith, refl), each_of names (λ y c. f y (suc c.0, (let k : c.0 < length names = c.1 in omega (arith, k)), c.2)))

list_tasks : (t : Name) (number : ℕ) (wants : List WantValue) (ps : List PlaceValue) (old new : State) → ListGrant old t number wants ps new → new.owners.tasks ≡ old.owners.tasks
list_tasks t number [] [] old new h = ap (λ st. st.owners.tasks) h
list_tasks t number [] (p ∷ ps) old new h = absurd h
list_tasks t number (want ∷ wants) [] old new h = absurd h
list_tasks t number (want ∷ wants) (p ∷ ps) old new h = list_tasks t number wants ps h.0 new h.2 ∙ enters_tasks old.owners t number h.1.subpool h.0.owners h.1.owners

module _ (old : State) (fine : TasksUnended old) where
  -- what is so after a request
  abbrev Fine : Reply → State → Type 0
  Fine answer new = ReplyUnended answer × TasksUnended new

  descends_fine : (t x : Name) → Descends old.owners t x → IsUnended x
  descends_fine t x (subtask m) = fine x (ap is_some m.1)
  descends_fine t x (further d m) = fine x (ap is_some m.1)

  ended_fine : (t : Name) (new : State) → End old t new → TasksUnended new
  ended_fine t new e x active = fine x (kept_passes is_some refl _ _ (sym (ap is_some (e.owners.tasks x)) ∙ active))

  abends : (t : Name) (code : Code) (answer : Reply) (new : State) → Abends old t code answer new → Fine answer new
  abends t code answer new h = (subst ReplyUnended (sym h.1) (each_of h.0.fallen (λ x c. descends_fine t x ((h.0.is_fallen.descendants x).0 c))), ended_fine t new h.0)

  stays : (answer : Reply) (new : State) → ReplyUnended answer → new.owners.tasks ≡ old.owners.tasks → Fine answer new
  stays answer new h e = (h, λ x active. fine x (ap (λ m. is_some (get m x)) (sym e) ∙ active))

  fails : (b : Bool) (t : Name) (code : Code) (answer : Reply) (new : State) → Fails b old t code answer new → Fine answer new
  fails true t code answer new h = stays answer new (subst ReplyUnended (sym h.0) (tt {0})) (ap (λ st. st.owners.tasks) h.1)
  fails false t code answer new h = abends t code answer new h

  replies : (said answer : Reply) (new : State) → ReplyUnended said → answer ≡ said → new.owners ≡ old.owners → Fine answer new
  replies said answer new h e same = stays answer new (subst ReplyUnended (sym e) h) (ap (λ o. o.tasks) same)

  entered : (said answer : Reply) (t : Name) (number s : ℕ) (new : State) → ReplyUnended said → answer ≡ said → Enters old.owners t number s new.owners → Fine answer new
  entered said answer t number s new h e enters = stays answer new (subst ReplyUnended (sym e) h) (enters_tasks old.owners t number s new.owners enters)

  attached : (t name : Name) (gifts : GiftsValue) (residence : Residence) (new : State) → IsUnended name → Attaches old t name gifts residence new → TasksUnended new
  attached t name gifts residence new named h x active = at (same_name name x) refl (sym (ap is_some (h.owners.tasks x)) ∙ active) where
    at : (b : Bool) → same_name name x ≡ b → is_some (cond b (Some (record { mother = Some t; residence = residence })) (get old.owners.tasks x)) ≡ true → IsUnended x
    at true e is = subst IsUnended (same_name_is name x e) named
    at false e is = fine x is

  -- ---- each request

  obtain : (t : Name) (form : Form) (number : ℕ) (want : WantValue) (answer : Reply) (new : State) → ObtainStep old t form number want answer new → Fine answer new
  obtain t form number want answer new h =
      by_test (is_invalid number) h (λ _ a. abends t _ answer new a) (λ _ k. elim k [ inl f ↦ fails _ t _ answer new f.1 | inr g ↦ entered (reply.Obtained g.0) answer (effective_task old.owners t number) number g.2.subpool new tt g.1 g.2.owners ])

  obtain_list : (t : Name) (form : Form) (number : ℕ) (wants : List WantValue) (answer : Reply) (new : State) → ObtainListStep old t form number wants answer new → Fine answer new
  obtain_list t form number wants answer new h =
      by_test (is_invalid number) h (λ _ a. abends t _ answer new a)
      (λ _ k. elim k [ inl f ↦ fails _ t _ answer new f.1 | inr g ↦ stays answer new (subst ReplyUnended (sym g.1) (tt {0})) (list_tasks (effective_task old.owners t number) number wants g.0 old new g.2) ])

  release : (t : Name) (form : Form) (number : ℕ) (ps : List PlaceValue) (answer : Reply) (new : State) → ReleaseStep old t form number ps answer new → Fine answer new
  release t form number ps answer new h =
      by_test (is_invalid number) h (λ _ a. abends t _ answer new a)
      (λ _ k. by_test (not (list_all on_doubleword ps)) k (λ _ a. abends t _ answer new a) (λ _ m. elim m [ inl f ↦ fails _ t _ answer new f.1 | inr g ↦ replies reply.Rc0 answer new tt g.1 g.2.owners ]))

  empties : (o : Option ℕ) (new : State) → EmptiesEntry old o new → new.owners ≡ old.owners
  empties None new h = ap (λ st. st.owners) h
  empties (Some s) new h = h.owners

  release_whole : (t : Name) (form : Form) (number : ℕ) (answer : Reply) (new : State) → ReleaseWholeStep old t form number answer new → Fine answer new
  release_whole t form number answer new h =
      by_test (is_invalid number) h (λ _ a. abends t _ answer new a)
      (λ _ k. by_test (number == 0) k (λ _ a. abends t _ answer new a) (λ _ e. replies reply.Rc0 answer new tt e.0 (empties (subpool_meant old.owners t number) new e.1)))

  build : (t name : Name) (number : ℕ) (plan : Plan) (answer : Reply) (new : State) → BuildStep old t name number plan answer new → Fine answer new
  build t name number plan answer new h =
      by_test (is_invalid number) h (λ _ a. abends t _ answer new a)
      (λ _ k. by_test (contains_key old.pools name) k (λ _ a. abends t _ answer new a)
      (λ _ l. by_test (nat_le 64 (len old.pools)) l (λ _ a. abends t _ answer new a) (λ _ m. elim m [
        | inl f ↦ abends t _ answer new f.1
        | inr g ↦ entered reply.Rc0 answer (effective_task old.owners t number) number g.0.0 new tt g.1 (subst (Enters old.owners (effective_task old.owners t number) number g.0.0) (sym g.0.2.3.owners_are) g.0.2.2)
      ])))

  gets_none : (t name : Name) (conditional : Bool) (pool : Pool) (answer : Reply) (new : State) → GetsNone old t name conditional pool answer new → Fine answer new
  gets_none t name conditional pool answer new h =
      by_test conditional h (λ _ r. replies reply.NoCell answer new tt r.0 (ap (λ st. st.owners) r.1))
      (λ _ m. elim m [ inl f ↦ abends t _ answer new f.1 | inr g ↦ replies (reply.Cell (cell_at (with_part pool pool.secondary g.0) g.3.0)) answer new tt g.3.2.1 (g.3.2.0.owners ∙ g.2.owners_are) ])

  get_cell : (o : Option Pool) (t name : Name) (conditional : Bool) (answer : Reply) (new : State) → GetStep old t name conditional o answer new → Fine answer new
  get_cell None t name conditional answer new h = abends t _ answer new h
  get_cell (Some pool) t name conditional answer new (inl g) = replies (reply.Cell (cell_at pool g.0)) answer new tt g.2.1 g.2.0.owners
  get_cell (Some pool) t name conditional answer new (inr f) = gets_none t name conditional pool answer new f.1

  free_cell : (o : Option Pool) (t name : Name) (c : ℕ) (answer : Reply) (new : State) → FreeStep old t name c o answer new → Fine answer new
  free_cell None t name c answer new h = abends t _ answer new h
  free_cell (Some pool) t name c answer new h = by_test (not (set.contains pool.taken c)) h (λ _ a. abends t _ answer new a) (λ _ g. replies reply.Rc0 answer new tt g.0 g.1.owners)

  delete : (o : Option Pool) (t name : Name) (answer : Reply) (new : State) → DeleteStep old t name o answer new → Fine answer new
  delete None t name answer new h = abends t _ answer new h
  delete (Some pool) t name answer new h = replies reply.Rc0 answer new tt h.0 h.1.owners

  attach : (refusal : Option Code) (t name : Name) (gifts : GiftsValue) (residence : Residence) (answer : Reply) (new : State) → IsUnended name → AttachCase old t name gifts residence refusal answer new → Fine answer new
  attach (Some code) t name gifts residence answer new named h = abends t code answer new h
  attach None t name gifts residence answer new named h = (subst ReplyUnended (sym h.0) (tt {0}), attached t name gifts residence new named h.1)

  returns : (t : Name) (answer : Reply) (new : State) → ReturnStep old t answer new → Fine answer new
  returns t answer new h = by_test (has_subtask old.owners t) h (λ _ a. abends t _ answer new a) (λ _ e. (subst ReplyUnended (sym e.0) (tt {0}), ended_fine t new e.1))

  access : (t : Name) (allowed : Bool) (done : Type 0) (answer : Reply) (new : State) → (done → new.owners ≡ old.owners) → Accesses old t allowed done answer new → Fine answer new
  access t allowed done answer new f h = by_test (not allowed) h (λ _ a. abends t _ answer new a) (λ _ d. replies reply.Done answer new tt d.0 (f d.1))

  acts : (t : Name) (asked : Request) (answer : Reply) (new : State) → RequestUnended asked → Acts old t asked answer new → Fine answer new
  acts t (request.Obtain form number ask) answer new r h = obtain t form number _ answer new h
  acts t (request.ObtainList form number lengths start) answer new r h = obtain_list t form number _ answer new h
  acts t (request.Release form number p) answer new r h = release t form number (p ∷ []) answer new h
  acts t (request.ReleaseList form number ps) answer new r h = release t form number ps answer new h
  acts t (request.ReleaseWhole form number) answer new r h = release_whole t form number answer new h
  acts t (request.Build name number size primary secondary loc) answer new r h = build t name number _ answer new h
  acts t (request.Get name conditional) answer new r h = get_cell (get old.pools name) t name conditional answer new h
  acts t (request.Free name c) answer new r h = free_cell (get old.pools name) t name c answer new h
  acts t (request.Delete name) answer new r h = delete (get old.pools name) t name answer new h
  acts t (request.Attach name gifts residence) answer new r h = attach (attach_refusal old.owners t name gifts) t name gifts residence answer new r h
  acts t request.Return answer new r h = returns t answer new h
  acts t (request.Abend n) answer new r h = abends t _ answer new h
  acts t (request.Show a n) answer new r h = access t _ _ answer new (λ e. ap (λ st. st.owners) e) h
  acts t (request.Put a bytes) answer new r h = access t _ _ answer new (λ w. w.owners) h
  acts t (request.Move to from n) answer new r h = access t _ _ answer new (λ w. w.owners) h

  step_fine : (t : Name) (asked : Request) (answer : Reply) (new : State) → RequestUnended asked → Step old t asked answer new → Fine answer new
  step_fine t asked answer new r h = by_test (not (is_active old.owners t)) (step_cases old t asked answer new h) (λ _ k. replies reply.NotRun answer new tt k.0 (ap (λ st. st.owners) k.1)) (λ _ k. acts t asked answer new r k)

-- ---- what a line tells

resolved_fine : (names : FinMap name_cmp PlaceValue) (a : SourceRequest) (r : Request) → AttachesUnended a → resolved names a ≡ Some r → RequestUnended r
resolved_fine names a r h1 h2 = grind (arith, nat_tests)

answered_fine : (st : State) (a : SourceRequest) (r : Request) (answer : Reply) → ReplyUnended answer → AnswerUnended (answer_of st a r answer)
answered_fine st a r answer h1 = grind (arith, nat_tests)

where_fine : (p : Option PlaceValue) → AnswerUnended (where_answer p)
where_fine None = tt
where_fine (Some p) = tt

label_fine : (st : State) → WellFormed st → TasksUnended st → (s : Option ℕ) → HolderUnended (label_of st.owners s)
label_fine st well fine None = tt
label_fine st well fine (Some s) = of_owner (get st.owners.owner s) refl where
  of_owner : (o : Option Name) → get st.owners.owner s ≡ o → HolderUnended (option_and_then (λ t. option_map (λ n. (n, t)) (number_of st.owners t s)) o)
  of_owner None e = tt
  of_owner (Some t) e = of_number (number_of st.owners t s) where
    of_number : (n : Option ℕ) → HolderUnended (option_map (λ n. (n, t)) n)
    of_number None = tt
    of_number (Some n) = let o = well.owners.owned.owned t s e in fine t (well.owners.owned.active t o.0 s o.1)

runs_fine : (st : State) → WellFormed st → TasksUnended st → (a : ℕ) (runs : List PageRun) → AllByRecursion (λ r. HolderUnended r.holder) (map_runs st.owners a runs)
runs_fine st well fine a [] = tt
runs_fine st well fine a (run ∷ runs) = (label_fine st well fine run.subpool, runs_fine st well fine (a + page_bytes * run.count) runs)

all_both : {X : Type 0} (P : X → Type 0) (xs ys : List X) → AllByRecursion P xs → AllByRecursion P ys → AllByRecursion P (xs ++ ys)
all_both P [] ys h k = k
all_both P (x ∷ xs) ys h k = (h.0, all_both P xs ys h.1 k)

map_fine : (st : State) → WellFormed st → TasksUnended st → AllByRecursion (λ r. HolderUnended r.holder) (page_map st)
map_fine st well fine =
    let below = page_runs st first_page_below st.regions.below in
    let above = page_runs st first_page_above st.regions.above in
    all_both (λ (r : MapRun). HolderUnended r.holder) (map_runs st.owners below_begins below) (map_runs st.owners above_begins above) (runs_fine st well fine below_begins below) (runs_fine st well fine above_begins above)

-- what is so after a statement
abbrev ContinuesRun : Answer → JobValue → Type 0
ContinuesRun answer new = AnswerUnended answer × TasksUnended new.state

tells_fine : (old : JobValue) (expected answer : Answer) (new : JobValue) → TasksUnended old.state → AnswerUnended expected → OnlyAnswers old expected answer new → ContinuesRun answer new
tells_fine old expected answer new fine h e = (subst AnswerUnended (sym e.0) h, subst (λ j. TasksUnended j.state) (sym e.1) fine)

asks_fine : (old : JobValue) (t : Name) (a : SourceRequest) (o : Option Request) (answer : Answer) (new : JobValue) → TasksUnended old.state → ((r : Request) → o ≡ Some r → RequestUnended r) → Asks Any old t a o answer new → ContinuesRun answer new
asks_fine old t a None answer new fine f h = tells_fine old NoName answer new fine (tt {0}) h
asks_fine old t a (Some r) answer new fine f h =
    let s = step_fine old.state fine t r h.reply new.state (f r refl) h.step in
    (subst AnswerUnended (sym h.answer_is) (answered_fine old.state a r h.reply s.0), s.1)

says_fine : (old : JobValue) (t : Name) (s : Statement) (answer : Answer) (new : JobValue) → WellFormed old.state → TasksUnended old.state → SaysUnended s → AnswersTo Any old t s answer new → ContinuesRun answer new
says_fine old t (says.Region below above fill residence) answer new is fine named h = absurd h
says_fine old t (says.Request a) answer new is fine named h = asks_fine old t a (resolved old.names a) answer new fine (λ r e. resolved_fine old.names a r named e) h
says_fine old t (says.Where name) answer new is fine named h = tells_fine old _ answer new fine (where_fine (get old.names name)) h
says_fine old t says.ReportSubpools answer new is fine named h = tells_fine old _ answer new fine (tt {0}) h
says_fine old t says.ReportMap answer new is fine named h = tells_fine old _ answer new fine (map_fine old.state is fine) h

does_fine : (old : JobValue) (t : Name) (s : Statement) (answer : Answer) (new : JobValue) → WellFormed old.state → TasksUnended old.state → SaysUnended s → Does Any old t s answer new → ContinuesRun answer new
does_fine old t s answer new is fine named h = by_case (not (is_active old.state.owners t)) h (λ n. tells_fine old NotRun answer new fine (tt {0}) n) (λ k. says_fine old t s answer new is fine named k)

no_task : (x : Name) → get (empty {X = Task} {R = name_cmp}) x ≡ None
no_task x = search (gets)

start_fine : (card : CardValue) → IsUnended card.name → TasksUnended (start card)
start_fine card named x active = at (same_name x card.name) refl (sym (ap is_some (made_at empty card.name (record { mother = None; residence = card.residence }) x)) ∙ active) where
  none : is_some (get (empty {X = Task} {R = name_cmp}) x) ≡ false
  none = ap is_some (no_task x)

  at : (b : Bool) → same_name x card.name ≡ b → is_some (cond b (Some (record { mother = None; residence = card.residence })) (get (empty {X = Task} {R = name_cmp}) x)) ≡ true → IsUnended x
  at true e is = subst IsUnended (sym (same_name_is x card.name e)) named
  at false e is = true_false (sym is ∙ none)

-- what is so after a line
abbrev Leaves : List Event → Option JobValue → Type 0
Leaves events new = AllByRecursion EventUnended events × Holds TasksUnended new

ending_fine : (old : Option JobValue) → AllByRecursion EventUnended (ending machine old)
ending_fine None = tt
ending_fine (Some job) = (tt, tt)

turned : (number : ℕ) (old : Option JobValue) (t : Name) (card : CardValue) (events : List Event) (new : Option JobValue) → IsUnended t → IsUnended card.name → Turns machine number old t card events new → Leaves events new
turned number old t card events new named begins h =
    (subst (AllByRecursion EventUnended) (sym h.0) (all_both EventUnended (ending machine old) _ (ending_fine old) ((named, tt), tt)), subst (Holds TasksUnended) (sym h.1) (start_fine card begins))

serves_fine : (number : ℕ) (old : Option JobValue) (l : Line) (events : List Event) (new : Option JobValue) → Holds WellFormed old → Holds TasksUnended old → NamesUnended l → Serves machine number old l events new → Leaves events new
serves_fine number old line.Nothing events new is fine named h = (subst (AllByRecursion EventUnended) (sym h.0) tt, subst (Holds TasksUnended) (sym h.1) fine)
serves_fine number None (line.Statement t s) events new is fine named h =
    served_first machine (λ _. Unit {0}) (λ _. Leaves events new) number t s events new h tt (λ below above fill residence _ e. turned number None t (card_of t below above fill residence) events new named.0 named.0 e)
serves_fine number (Some job) (line.Statement t s) events new is fine named h =
    served_in machine SaysUnended (λ _. Leaves events new) number job t s events new h named.1
    (λ below above fill residence _ e. turned number (Some job) t (card_of t below above fill residence) events new named.0 named.0 e)
    (λ s _ said d.
    let k = does_fine job t s d.0 d.1 is fine said d.2 in
    (subst (AllByRecursion EventUnended) (sym d.3) ((named.0, k.0), tt), subst (Holds TasksUnended) (sym d.4) k.1))

module _ (well : StaysWellFormed) (all : List (List ℕ)) where
  running : (events : List Event) (number : ℕ) (old : Option JobValue) (lines : List (List ℕ)) → Reaches all events number old lines → Holds WellFormed old
  running events number None lines r = tt
  running events number (Some job) lines r = well job (record { lines = r.served; events = events; leads = r.leads })

  closing_fine : (number : ℕ) (old : Option JobValue) (events : List Event) (outcome : Outcome) → Closes machine number old events outcome → AllByRecursion EventUnended events
  closing_fine number None events outcome h = subst (AllByRecursion EventUnended) (sym h.0) (tt, tt)
  closing_fine number (Some job) events outcome h = subst (AllByRecursion EventUnended) (sym h.0) (tt, tt)

  walk_fine : (outcome : Outcome) (lines : List (List ℕ)) (before : List Event) (number : ℕ) (old : Option JobValue) (events : List Event) → Reaches all before number old lines → Holds TasksUnended old → Walks machine (JobEnds machine outcome) number old lines events → AllByRecursion EventUnended events
  walk_fine outcome [] before number old events r fine h = closing_fine number old events outcome h
  walk_fine outcome (l ∷ lines) before number old events r fine (inl h) = subst (AllByRecursion EventUnended) (sym h.0.2) (tt, tt)
  walk_fine outcome (l ∷ lines) before number old events r fine (inr (mid, first, rest, serves, e, more)) =
      let k = serves_fine number old serves.0 first mid (running before number old (l ∷ lines) r) fine (names_unended _ l serves.0 serves.1) serves.2 in
      subst (AllByRecursion EventUnended) (sym e) (all_both EventUnended first rest k.0 (walk_fine outcome lines (before ++ first) (number + 1) mid rest (reaches_next all before first number old mid l lines r serves) k.1 more))

-- No name in the events of a run has a line feed.
pub run_unended : StaysWellFormed → (script : List ℕ) (events : List Event) (outcome : Outcome) → IsRun script events outcome → AllByRecursion EventUnended events
run_unended well script events outcome h = walk_fine well (lines_of script) outcome (lines_of script) [] 1 None events (record { served = []; lines = refl; counted = refl; leads = (refl, refl) }) tt h

-- So no line of a printing begins with an asterisk.
pub no_line_starred : StaysWellFormed → (script text : List ℕ) (outcome : Outcome) → IsPrinting script text outcome → without_starred text ≡ text
no_line_starred well script text outcome (events, run, e) = subst (λ x. without_starred x ≡ x) (sym e) (printing_stands events (run_unended well script events outcome run))
