-- A run is determined by the addresses that its lines pick.
use Rattle.std.proofs.Common.{◌≡◌, ◌≤◌, ℕ, ◌+◌, inl, inr, Bool, true, false, cond, List, [], ◌∷◌, Option, Some, None, arith, refl, sym, ap, ◌∙◌, subst}
use Rattle.std.specs.Prelude.{not, ◌||◌, ◌==◌}
use Rattle.std.specs.Bool.{MatchBool}
use Rattle.std.proofs.lemmas.Bool.Decides.{nat_tests}
use Rattle.mvs_laws.proofs.Types.{Name, Statement, SourceRequest, Line, Outcome}
use Rattle.mvs_model.specs.declared.line.Line.TheVariants as line
use Rattle.mvs_model.specs.declared.line.Statement.TheVariants as says
use Rattle.mvs_model.specs.declared.request.Request.{Request}
use Rattle.mvs_model.specs.declared.request.Reply.{Reply}
use Rattle.mvs_model.specs.Owners.{is_active}
use Rattle.mvs_model.specs.State.{State}
use Rattle.mvs_model.specs.Steps.{Step}
use Rattle.mvs_model.specs.Lines.{lines_of}
use Rattle.mvs_model.specs.Resolving.{resolved, names_set, places_in, all_set}
use Rattle.mvs_model.specs.Replies.{is_abend, answer_of}
use Rattle.mvs_model.specs.Answers as tells
use Rattle.mvs_model.specs.Answers.{Answer, Event}
use Rattle.mvs_model.specs.Job.{JobValue, job_at}
use Rattle.mvs_model.specs.Walk.{Serves, Walks, JobEnds}
use Rattle.mvs_model.specs.Runs.{Condition, OnlyAnswers, Asks, AnswersTo, Does, Any, machine_where, machine}
use Rattle.mvs_model.specs.Determined.{picked, Entered, Picks, HasPlaces, PlacesDetermine, Needs, Obeys, HintsDecide}
use Rattle.mvs_model.proofs.OneSteps.{by_two, one_step}
use Rattle.mvs_laws.proofs.Walking.{served_first, served_in, steps_serve}
use Rattle.mvs_laws.proofs.OneWalk as walk

-- Two conditions of steps that leave one reply and one state.
abbrev pub Decide : Entered → Entered → Type 0
Decide P Q =
    (at : List ℕ) (old : State) (t : Name) (r : Request) (one other : Reply) (a b : State)
    → Step old t r one a → Step old t r other b → P at old t r one a → Q at old t r other b → (one ≡ other) × (a ≡ b)

module _ (P Q : Entered) (decide : Decide P Q) (entries : ℕ → List ℕ) (number : ℕ) (old : JobValue) (t : Name) (answer other : Answer) (a b : JobValue) where
  asks_one : (k : SourceRequest) (r : Option Request) → Asks (P (entries number)) old t k r answer a → Asks (Q (entries number)) old t k r other b → (answer ≡ other) × (a ≡ b)
  asks_one k None x y = (x.0 ∙ sym y.0, x.1 ∙ sym y.1)
  asks_one k (Some r) x y =
      let s = decide (entries number) old.state t r x.reply y.reply a.state b.state x.step y.step x.meets y.meets in
      let names : a.names ≡ b.names = x.names ∙ ap (λ reply. all_set old.names (names_set k) (places_in reply)) s.0 ∙ sym y.names in
      let abended : a.abended ≡ b.abended = x.abended ∙ ap (λ reply. old.abended || is_abend reply) s.0 ∙ sym y.abended in
      let former : a.former ≡ b.former = x.former ∙ sym y.former in
      (x.answer_is ∙ ap (answer_of old.state k r) s.0 ∙ sym y.answer_is, λ i. record { state = s.1 i; names = names i; abended = abended i; former = former i })

  says_one : (s : Statement) → AnswersTo (P (entries number)) old t s answer a → AnswersTo (Q (entries number)) old t s other b → (answer ≡ other) × (a ≡ b)
  says_one (says.Region below above fill residence) x y = absurd x
  says_one (says.Request k) x y = asks_one k (resolved old.names k) x y
  says_one (says.Where name) x y = (x.0 ∙ sym y.0, x.1 ∙ sym y.1)
  says_one says.ReportSubpools x y = (x.0 ∙ sym y.0, x.1 ∙ sym y.1)
  says_one says.ReportMap x y = (x.0 ∙ sym y.0, x.1 ∙ sym y.1)

  does_one : (s : Statement) → Does (P (entries number)) old t s answer a → Does (Q (entries number)) old t s other b → (answer ≡ other) × (a ≡ b)
  does_one s x y = by_two (not (is_active old.state.owners t)) x y (λ p q. (p.0 ∙ sym q.0, p.1 ∙ sym q.1)) (λ p q. says_one s p q)

runs_one : (P Q : Entered) → Decide P Q → (entries : ℕ → List ℕ) (script : List ℕ) (one other : List Event) (o p : Outcome)
    → Walks (machine_where (λ number. P (entries number))) (JobEnds (machine_where (λ number. P (entries number))) o) 1 None (lines_of script) one
    → Walks (machine_where (λ number. Q (entries number))) (JobEnds (machine_where (λ number. Q (entries number))) p) 1 None (lines_of script) other
    → (one ≡ other) × (o ≡ p)
runs_one P Q decide entries script one other o p x y =
    walk.walks_one job_at (λ job. job.abended) (λ job. job.former) (λ number. Does (P (entries number))) (λ number. Does (Q (entries number)))
    (λ number old t s answer other a b x y. does_one P Q decide entries number old t answer other a b s x y) o p (lines_of script) 1 None one other x y

pub places_determine : PlacesDetermine
places_determine entries script one other o p x y = runs_one Picks Picks (λ at old t r one other a b x y p q. one_step old t r one other a b x y (p ∙ sym q)) entries script one other o p x y

needs_decide : Decide Needs Obeys
needs_decide [] old t r one other a b x y p q = one_step old t r one other a b x y (p.0 ∙ sym (p.1 refl other b y))
needs_decide (k ∷ ks) old t r one other a b x y p q = one_step old t r one other a b x y (p.0 ∙ sym (q (λ e. cc) one a x p.0))

pub hints_decide : HintsDecide
hints_decide entries script one other o p x y = runs_one Needs Obeys needs_decide entries script one other o p x y

abbrev pub Meets : Condition → Condition → Type 0
Meets C D = (old : State) (t : Name) (r : Request) (reply : Reply) (new : State) → C old t r reply new → D old t r reply new

-- a statement that meets one condition meets another one
module _ (C D : Condition) (meets : Meets C D) where
  asks_other : (old : JobValue) (t : Name) (k : SourceRequest) (r : Option Request) (answer : Answer) (new : JobValue) → Asks C old t k r answer new → Asks D old t k r answer new
  asks_other old t k None answer new x = x
  asks_other old t k (Some r) answer new x = record { reply = x.reply; step = x.step; meets = meets old.state t r x.reply new.state x.meets; names = x.names; abended = x.abended; former = x.former; answer_is = x.answer_is }

  says_other : (old : JobValue) (t : Name) (s : Statement) (answer : Answer) (new : JobValue) → AnswersTo C old t s answer new → AnswersTo D old t s answer new
  says_other old t (says.Region below above fill residence) answer new x = absurd x
  says_other old t (says.Request k) answer new x = asks_other old t k (resolved old.names k) answer new x
  says_other old t (says.Where name) answer new x = x
  says_other old t says.ReportSubpools answer new x = x
  says_other old t says.ReportMap answer new x = x

  does_other : (old : JobValue) (t : Name) (s : Statement) (answer : Answer) (new : JobValue) → Does C old t s answer new → Does D old t s answer new
  does_other old t s answer new x = by (not (is_active old.state.owners t)) x where
    by : (b : Bool) → MatchBool b (OnlyAnswers old tells.NotRun answer new) (AnswersTo C old t s answer new) → MatchBool b (OnlyAnswers old tells.NotRun answer new) (AnswersTo D old t s answer new)
    by true x = x
    by false x = says_other old t s answer new x

-- so does a line, and a walk whose lines do
module _ (C D : ℕ → Condition) where
  pub line_other : (number : ℕ) → Meets (C number) (D number) → (old : Option JobValue) (l : Line) (events : List Event) (new : Option JobValue) → Serves (machine_where C) number old l events new → Serves (machine_where D) number old l events new
  line_other number meets old line.Nothing events new x = x
  line_other number meets None (line.Statement t s) events new x =
      served_first (machine_where C) (λ _. Unit {0}) (λ s. Serves (machine_where D) number None (line.Statement t s) events new) number t s events new x tt (λ below above fill residence _ x. x)
  line_other number meets (Some job) (line.Statement t s) events new x =
      served_in (machine_where C) (λ _. Unit {0}) (λ s. Serves (machine_where D) number (Some job) (line.Statement t s) events new) number job t s events new x tt
      (λ below above fill residence _ x. x)
      (λ s of_step _ x. steps_serve (machine_where D) number job t s events new of_step (x.0, x.1, does_other (C number) (D number) meets job t s x.0 x.1 x.2, x.3, x.4))

  walks_other : (outcome : Outcome) (lines : List (List ℕ)) (number : ℕ) (old : Option JobValue) (events : List Event) → ((k : ℕ) → number ≤ k → Meets (C k) (D k))
      → Walks (machine_where C) (JobEnds (machine_where C) outcome) number old lines events → Walks (machine_where D) (JobEnds (machine_where D) outcome) number old lines events
  walks_other outcome [] number None events meets x = x
  walks_other outcome [] number (Some job) events meets x = x
  walks_other outcome (l ∷ lines) number old events meets (inl x) = inl x
  walks_other outcome (l ∷ lines) number old events meets (inr x) =
      inr (x.0, x.1, x.2, (x.3.0, x.3.1, line_other number (meets number (omega arith)) old x.3.0 x.1 x.0 x.3.2), x.4, walks_other outcome lines (number + 1) x.0 x.2 (λ k l. meets k (omega (arith, l))) x.5)

-- each statement picks some addresses
asks_at : (old : JobValue) (t : Name) (k : SourceRequest) (r : Option Request) (answer : Answer) (new : JobValue) → Asks Any old t k r answer new → (at : List ℕ) × Asks (Picks at) old t k r answer new
asks_at old t k None answer new x = ([], x)
asks_at old t k (Some r) answer new x = (picked r x.reply new.state, record { reply = x.reply; step = x.step; meets = refl; names = x.names; abended = x.abended; former = x.former; answer_is = x.answer_is })

says_at : (old : JobValue) (t : Name) (s : Statement) (answer : Answer) (new : JobValue) → AnswersTo Any old t s answer new → (at : List ℕ) × AnswersTo (Picks at) old t s answer new
says_at old t (says.Region below above fill residence) answer new x = absurd x
says_at old t (says.Request k) answer new x = asks_at old t k (resolved old.names k) answer new x
says_at old t (says.Where name) answer new x = ([], x)
says_at old t says.ReportSubpools answer new x = ([], x)
says_at old t says.ReportMap answer new x = ([], x)

does_at : (old : JobValue) (t : Name) (s : Statement) (answer : Answer) (new : JobValue) → Does Any old t s answer new → (at : List ℕ) × Does (Picks at) old t s answer new
does_at old t s answer new x = by (not (is_active old.state.owners t)) x where
  by : (b : Bool) → MatchBool b (OnlyAnswers old tells.NotRun answer new) (AnswersTo Any old t s answer new) → (at : List ℕ) × MatchBool b (OnlyAnswers old tells.NotRun answer new) (AnswersTo (Picks at) old t s answer new)
  by true x = ([], x)
  by false x = says_at old t s answer new x

serves_at : (number : ℕ) (old : Option JobValue) (l : Line) (events : List Event) (new : Option JobValue) → Serves machine number old l events new → (at : List ℕ) × Serves (machine_where (λ _. Picks at)) number old l events new
serves_at number old line.Nothing events new x = ([], x)
serves_at number None (line.Statement t s) events new x = (
  [],
  served_first machine (λ _. Unit {0}) (λ s. Serves (machine_where (λ _. Picks [])) number None (line.Statement t s) events new) number t s events new x tt (λ below above fill residence _ x. x),
)
serves_at number (Some job) (line.Statement t s) events new x =
    served_in machine (λ _. Unit {0}) (λ s. (at : List ℕ) × Serves (machine_where (λ _. Picks at)) number (Some job) (line.Statement t s) events new) number job t s events new x tt
    (λ below above fill residence _ x. ([], x))
    (λ s of_step _ x. let d = does_at job t s x.0 x.1 x.2 in (d.0, steps_serve (machine_where (λ _. Picks d.0)) number job t s events new of_step (x.0, x.1, d.1, x.3, x.4)))

-- the entry of one line before the others
abbrev with_entry : ℕ → List ℕ → (ℕ → List ℕ) → ℕ → List ℕ
with_entry number at entries k = cond (k == number) at (entries k)

entry_here : (number : ℕ) (at : List ℕ) (entries : ℕ → List ℕ) → at ≡ with_entry number at entries number
entry_here number at entries = grind (arith, nat_tests)

entry_later : (number : ℕ) (at : List ℕ) (entries : ℕ → List ℕ) (k : ℕ) → number + 1 ≤ k → entries k ≡ with_entry number at entries k
entry_later number at entries k l = grind (arith, nat_tests)

walks_at : (outcome : Outcome) (lines : List (List ℕ)) (number : ℕ) (old : Option JobValue) (events : List Event) → Walks machine (JobEnds machine outcome) number old lines events
    → (entries : ℕ → List ℕ) × Walks (machine_where (λ k. Picks (entries k))) (JobEnds (machine_where (λ k. Picks (entries k))) outcome) number old lines events
walks_at outcome [] number None events x = (λ _. [], x)
walks_at outcome [] number (Some job) events x = (λ _. [], x)
walks_at outcome (l ∷ lines) number old events (inl x) = (λ _. [], inl x)
walks_at outcome (l ∷ lines) number old events (inr x) =
    let s = serves_at number old x.3.0 x.1 x.0 x.3.2 in
    let rest = walks_at outcome lines (number + 1) x.0 x.2 x.5 in
    let entries : ℕ → List ℕ = with_entry number s.0 rest.0 in
    let here = line_other (λ _. Picks s.0) (λ k. Picks (entries k)) number (λ old t r reply new p. subst (λ at. picked r reply new ≡ at) (entry_here number s.0 rest.0) p) old x.3.0 x.1 x.0 s.1 in
    let later = walks_other (λ k. Picks (rest.0 k)) (λ k. Picks (entries k)) outcome lines (number + 1) x.0 x.2 (λ k l old t r reply new p. subst (λ at. picked r reply new ≡ at) (entry_later number s.0 rest.0 k l) p) rest.1 in
    (entries, inr (x.0, x.1, x.2, (x.3.0, x.3.1, here), x.4, later))

pub has_places : HasPlaces
has_places = record {
  some = λ script events outcome x. walks_at outcome (lines_of script) 1 None events x;
  is = λ entries script events outcome x. walks_other (λ k. Picks (entries k)) (λ _. Any) outcome (lines_of script) 1 None events (λ k _ old t r reply new _. tt) x;
}
