-- A line that can be granted no place is answered in one way.
use Rattle.std.proofs.Common.{◌≡◌, ℕ, ◌⊎◌, inl, inr, Bool, true, false, List, [], ◌∷◌, map, Option, Some, None, option_map, option_and_then, arith, refl, sym, ap, ◌∙◌, subst}
use Rattle.std.specs.Prelude.{not, ◌||◌, ◌==◌}
use Rattle.std.specs.List.{list_all}
use Rattle.std.specs.FinMap.{FinMap, get}
use Rattle.std.specs.FinSet as set
use Rattle.std.proofs.lemmas.Bool.Decides.{nat_tests}
use Rattle.mvs_model.proofs.StepCases.{step_cases}
use Rattle.mvs_model.specs.declared.name.Name.{Name}
use Rattle.mvs_model.specs.declared.line.Line.{Line}
use Rattle.mvs_model.specs.declared.line.Line.TheVariants as line
use Rattle.mvs_model.specs.declared.line.Statement.{Statement}
use Rattle.mvs_model.specs.declared.line.Statement.TheVariants as says
use Rattle.mvs_model.specs.declared.line.SourceRequest.{SourceRequest}
use Rattle.mvs_model.specs.declared.code.Code.{Code}
use Rattle.mvs_model.specs.declared.code.Code.TheVariants.{User}
use Rattle.mvs_model.specs.declared.code.Form.{Form}
use Rattle.mvs_model.specs.declared.want.Residence.{Residence}
use Rattle.mvs_model.specs.declared.request.Request.{Request}
use Rattle.mvs_model.specs.declared.request.Request.TheVariants as request
use Rattle.mvs_model.specs.declared.request.Reply.{Reply}
use Rattle.mvs_model.specs.declared.request.Reply.TheVariants.{Rc0}
use Rattle.mvs_model.specs.Place.{PlaceValue}
use Rattle.mvs_model.specs.Gifts.{GiftsValue}
use Rattle.mvs_model.specs.Name.{name_cmp}
use Rattle.mvs_model.specs.Owners.{is_active, subpool_meant, has_subtask}
use Rattle.mvs_model.proofs.ByCase.{attach_refusal}
use Rattle.mvs_model.specs.Pools.{Pool}
use Rattle.mvs_model.specs.State.{State}
use Rattle.mvs_model.specs.Codes.{family, is_conditional, not_held}
use Rattle.mvs_model.specs.Changes.{Frees}
use Rattle.mvs_model.specs.Steps.{Step}
use Rattle.mvs_model.proofs.ByCase.{Acts, Fails, MayRelease, ReleaseStep, FreeStep, DeleteStep, AttachCase, Accesses}
use Rattle.mvs_model.specs.Consequences.{Abends}
use Rattle.mvs_model.specs.Requests.{is_invalid, on_doubleword, whole}
use Rattle.mvs_model.specs.Resolving.{resolved, names_set, places_in, all_set}
use Rattle.mvs_model.specs.Replies.{is_abend, answer_of}
use Rattle.mvs_model.specs.Answers.{Answer, Event, AnswerTo}
use Rattle.mvs_model.specs.Job.{JobValue}
use Rattle.mvs_model.specs.Runs.{Condition, Any, Makes, Asks, AnswersTo, Does, job_machine, machine}
use Rattle.mvs_model.specs.Walk.{Serves}
use Rattle.mvs_model.specs.Determined.{granted_at, picked}
use Rattle.mvs_model.proofs.OneSteps.{by_two, none_granted, one_step}
use Rattle.mvs_model.proofs.Tests.{none_some}
use Rattle.judge.specs.Judging.{may_grant, leaves_open}

-- ---- a request that can be granted no place picks none

abbrev pub opens : Request → Bool
opens (request.Obtain form number ask) = true
opens (request.ObtainList form number lengths start) = true
opens (request.Build name number size primary secondary loc) = true
opens (request.Get name conditional) = true
opens _ = false

made_opens : (made r : Request) → opens made ≡ false → Some made ≡ Some r → opens r ≡ false
made_opens made r closed e = subst (λ r. opens r ≡ false) (let k : made ≡ r = cc in k) closed

map_opens : {A : Type 0} (o : Option A) (f : A → Request) (r : Request) → option_map f o ≡ Some r → ((a : A) → opens (f a) ≡ false) → opens r ≡ false
map_opens o f r h1 h2 = grind (arith, nat_tests, made_opens, none_some)

two_opens : {A B : Type 0} (o : Option A) (p : Option B) (f : A → B → Request) (r : Request) → option_and_then (λ a. option_map (f a) p) o ≡ Some r → ((a : A) (b : B) → opens (f a b) ≡ false) → opens r ≡ false
two_opens o p f r h1 h2 = grind (arith, nat_tests, map_opens, none_some)

asked_opens : (names : FinMap name_cmp PlaceValue) (a : SourceRequest) (r : Request) → may_grant a ≡ false → resolved names a ≡ Some r → opens r ≡ false
asked_opens names a r h1 h2 = grind (arith, nat_tests, made_opens, map_opens, two_opens)

module _ (old : State) (t : Name) (reply : Reply) (new : State) where
  abend_none : (code : Code) → Abends old t code reply new → granted_at reply ≡ []
  abend_none code y = ap granted_at y.1

  release_none : (form : Form) (number : ℕ) (ps : List PlaceValue) → ReleaseStep old t form number ps reply new → granted_at reply ≡ []
  release_none form number ps y = by_two (is_invalid number) y y (λ p q. abend_none _ q) (λ p q. by_two (not (list_all on_doubleword ps)) q q (λ p q. abend_none _ q) (λ p q. at q)) where
    at : ((MayRelease old (subpool_meant old.owners t number) (map whole ps) → ⊥) × Fails (is_conditional form) old t (not_held (family form)) reply new) ⊎ (MayRelease old (subpool_meant old.owners t number) (map whole ps) × (reply ≡ Rc0) × Frees old (map whole ps) new) → granted_at reply ≡ []
    at (inl y) = none_granted (is_conditional form) old t _ reply new y.1
    at (inr y) = ap granted_at y.1

  free_none : (name : Name) (c : ℕ) (o : Option Pool) → FreeStep old t name c o reply new → granted_at reply ≡ []
  free_none name c None y = abend_none _ y
  free_none name c (Some pool) y = by_two (not (set.contains pool.taken c)) y y (λ p q. abend_none _ q) (λ p q. ap granted_at q.0)

  delete_none : (name : Name) (o : Option Pool) → DeleteStep old t name o reply new → granted_at reply ≡ []
  delete_none name None y = abend_none _ y
  delete_none name (Some pool) y = ap granted_at y.0

  attach_none : (name : Name) (gifts : GiftsValue) (residence : Residence) (refusal : Option Code) → AttachCase old t name gifts residence refusal reply new → granted_at reply ≡ []
  attach_none name gifts residence (Some code) y = abend_none code y
  attach_none name gifts residence None y = ap granted_at y.0

  access_none : (allowed : Bool) (done : Type 0) → Accesses old t allowed done reply new → granted_at reply ≡ []
  access_none allowed done y = by_two (not allowed) y y (λ p q. abend_none _ q) (λ p q. ap granted_at q.0)

  acts_none : (r : Request) → opens r ≡ false → Acts old t r reply new → picked r reply new ≡ []
  acts_none (request.Obtain form number ask) closed y = absurd (let f : true ≡ false = closed in cc)
  acts_none (request.ObtainList form number lengths start) closed y = absurd (let f : true ≡ false = closed in cc)
  acts_none (request.Build name number size primary secondary loc) closed y = absurd (let f : true ≡ false = closed in cc)
  acts_none (request.Get name conditional) closed y = absurd (let f : true ≡ false = closed in cc)
  acts_none (request.Release form number p) closed y = release_none form number (p ∷ []) y
  acts_none (request.ReleaseList form number ps) closed y = release_none form number ps y
  acts_none (request.ReleaseWhole form number) closed y = by_two (is_invalid number) y y (λ p q. abend_none _ q) (λ p q. by_two (number == 0) q q (λ p q. abend_none _ q) (λ p q. ap granted_at q.0))
  acts_none (request.Free name c) closed y = free_none name c (get old.pools name) y
  acts_none (request.Delete name) closed y = delete_none name (get old.pools name) y
  acts_none (request.Attach name gifts residence) closed y = attach_none name gifts residence (attach_refusal old.owners t name gifts) y
  acts_none request.Return closed y = by_two (has_subtask old.owners t) y y (λ p q. abend_none _ q) (λ p q. ap granted_at q.0)
  acts_none (request.Abend n) closed y = abend_none (User n) y
  acts_none (request.Show k n) closed y = access_none _ _ y
  acts_none (request.Put k bytes) closed y = access_none _ _ y
  acts_none (request.Move to from n) closed y = access_none _ _ y

closed_same : (old : State) (t : Name) (r : Request) (one other : Reply) (a b : State) → opens r ≡ false → Step old t r one a → Step old t r other b → (one ≡ other) × (a ≡ b)
closed_same old t r one other a b closed x y = by_two (not (is_active old.owners t)) (step_cases old t r one a x) (step_cases old t r other b y) (λ p q. (p.0 ∙ sym q.0, p.1 ∙ sym q.1))
    (λ p q. one_step old t r one other a b x y (acts_none old t one a r closed p ∙ sym (acts_none old t other b r closed q)))

-- ---- what two steps alike leave

module _ (P : Condition) (old : JobValue) (t : Name) (answer other : Answer) (a b : JobValue) where
  pub made_same : (k : SourceRequest) (r : Request) (x : Makes P old t k r answer a) (y : Makes Any old t k r other b) → x.reply ≡ y.reply → a.state ≡ b.state → (answer ≡ other) × (a ≡ b)
  made_same k r x y reply state =
      let names : a.names ≡ b.names = x.names ∙ ap (λ reply. all_set old.names (names_set k) (places_in reply)) reply ∙ sym y.names in
      let abended : a.abended ≡ b.abended = x.abended ∙ ap (λ reply. old.abended || is_abend reply) reply ∙ sym y.abended in
      let former : a.former ≡ b.former = x.former ∙ sym y.former in
      (x.answer_is ∙ ap (answer_of old.state k r) reply ∙ sym y.answer_is, λ i. record { state = state i; names = names i; abended = abended i; former = former i })

  asks_same : (k : SourceRequest) (o : Option Request) → ((r : Request) → o ≡ Some r → opens r ≡ false) → Asks P old t k o answer a → Asks Any old t k o other b → (answer ≡ other) × (a ≡ b)
  asks_same k None closed x y = (x.0 ∙ sym y.0, x.1 ∙ sym y.1)
  asks_same k (Some r) closed x y =
      let s = closed_same old.state t r x.reply y.reply a.state b.state (closed r refl) x.step y.step in
      made_same k r x y s.0 s.1

  says_same : (s : Statement) → leaves_open (line.Statement t s) ≡ false → AnswersTo P old t s answer a → AnswersTo Any old t s other b → (answer ≡ other) × (a ≡ b)
  says_same (says.Region below above fill residence) closed x y = absurd x
  says_same (says.Request k) closed x y = asks_same k (resolved old.names k) (λ r e. asked_opens old.names k r closed e) x y
  says_same (says.Where name) closed x y = (x.0 ∙ sym y.0, x.1 ∙ sym y.1)
  says_same says.ReportSubpools closed x y = (x.0 ∙ sym y.0, x.1 ∙ sym y.1)
  says_same says.ReportMap closed x y = (x.0 ∙ sym y.0, x.1 ∙ sym y.1)

  does_same : (s : Statement) → leaves_open (line.Statement t s) ≡ false → Does P old t s answer a → Does Any old t s other b → (answer ≡ other) × (a ≡ b)
  does_same s closed x y = by_two (not (is_active old.state.owners t)) x y (λ p q. (p.0 ∙ sym q.0, p.1 ∙ sym q.1)) (λ p q. says_same s closed p q)

-- ---- a line

module _ (P : Condition) (number : ℕ) (events other : List Event) (a b : Option JobValue) where
  step_same : (job : JobValue) (t : Name) (s : Statement) → leaves_open (line.Statement t s) ≡ false
      → ((answer : Answer) × (later : JobValue) × Does P job t s answer later × (events ≡ AnswerTo number t answer ∷ []) × (a ≡ Some later))
      → ((answer : Answer) × (later : JobValue) × Does Any job t s answer later × (other ≡ AnswerTo number t answer ∷ []) × (b ≡ Some later))
      → (events ≡ other) × (a ≡ b)
  step_same job t s closed x y =
      let d = does_same P job t x.0 y.0 x.1 y.1 s closed x.2 y.2 in
      (x.3 ∙ ap (λ answer. AnswerTo number t answer ∷ []) d.0 ∙ sym y.3, x.4 ∙ ap Some d.1 ∙ sym y.4)

  pub serves_same : (old : Option JobValue) (l : Line) → leaves_open l ≡ false → Serves (job_machine P) number old l events a → Serves machine number old l other b → (events ≡ other) × (a ≡ b)
  serves_same old line.Nothing closed x y = (x.0 ∙ sym y.0, x.1 ∙ sym y.1)
  serves_same old (line.Statement t (says.Region below above fill residence)) closed x y = (x.0 ∙ sym y.0, x.1 ∙ sym y.1)
  serves_same None (line.Statement t (says.Request k)) closed x y = absurd x
  serves_same None (line.Statement t (says.Where name)) closed x y = absurd x
  serves_same None (line.Statement t says.ReportSubpools) closed x y = absurd x
  serves_same None (line.Statement t says.ReportMap) closed x y = absurd x
  serves_same (Some job) (line.Statement t (says.Request k)) closed x y = step_same job t (says.Request k) closed x y
  serves_same (Some job) (line.Statement t (says.Where name)) closed x y = step_same job t (says.Where name) closed x y
  serves_same (Some job) (line.Statement t says.ReportSubpools) closed x y = step_same job t says.ReportSubpools closed x y
  serves_same (Some job) (line.Statement t says.ReportMap) closed x y = step_same job t says.ReportMap closed x y
