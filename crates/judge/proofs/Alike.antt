-- Two steps that differ in nothing but places still do after a statement that ends the same way in both.
use Rattle.std.proofs.Common.{◌≡◌, ℕ, inl, inr, Bool, true, false, cond, List, [], ◌∷◌, length, Option, Some, None, arith, refl, sym, ap, ◌∙◌, subst}
use Rattle.std.specs.Prelude.{not, ◌||◌, ◌&&◌, is_some}
use Rattle.std.specs.Bool.{MatchBool}
use Rattle.std.specs.Option.{option_map, option_and_then}
use Rattle.std.specs.FinMap.{FinMap, get, insert, get-insert}
use Rattle.mvs_laws.proofs.Types.{Name, SourceRequest, Request, Reply, Statement, Location}
use Rattle.mvs_model.specs.declared.line.Location.TheVariants.{Absolute, Named}
use Rattle.mvs_model.specs.declared.line.SourceRequest.TheVariants as written
use Rattle.mvs_model.specs.declared.line.Statement.TheVariants as statement
use Rattle.mvs_model.specs.declared.request.Reply.TheVariants as reply
use Rattle.mvs_model.specs.declared.refusal.Consequence.{Consequence}
use Rattle.mvs_model.specs.declared.refusal.Consequence.TheVariants as consequence
use Rattle.mvs_model.specs.Name.{name_cmp}
use Rattle.mvs_model.specs.Place.{PlaceValue}
use Rattle.mvs_model.specs.Owners.{is_active}
use Rattle.mvs_model.specs.State.{State}
use Rattle.mvs_model.specs.Consequences.{Settles, reply_to}
use Rattle.mvs_model.specs.Resolving.{resolved, address_of, places_of, places_in, all_set, names_set}
use Rattle.mvs_model.specs.Replies.{answer_of, is_abend}
use Rattle.mvs_model.specs.Steps.{Step}
use Rattle.mvs_model.specs.Answers.{Answer, NotRun}
use Rattle.mvs_model.specs.Job.{JobValue}
use Rattle.mvs_model.specs.Runs.{Any, Asks, Makes, AnswersTo, OnlyAnswers}
use Rattle.mvs_model.proofs.Orders.{name_cmp_total}
use Rattle.mvs_model.proofs.OneSteps.{by_two}
use Rattle.mvs_model.proofs.Tests.{false_true, true_false}
use Rattle.judge.proofs.Effects.{Effect, Goes_away, SamePools, Doing, one_effect, does_effect, end_away, away_one}
use Rattle.judge.specs.Outline.{AreAlike, StaysAlike, Stays, Falls, Goes, Way, way, pool_at}

-- ---- names

abbrev pub SetAlike : FinMap name_cmp PlaceValue → FinMap name_cmp PlaceValue → Type 0
SetAlike a b = (name : Name) → is_some (get a name) ≡ is_some (get b name)

insert_alike : (a b : FinMap name_cmp PlaceValue) (area : Name) (p q : PlaceValue) → SetAlike a b → SetAlike (insert a area p) (insert b area q)
insert_alike a b area p q same name = ap is_some (get-insert name_cmp_total a area p name) ∙ by _ ∙ sym (ap is_some (get-insert name_cmp_total b area q name)) where
  by : (t : Bool) → is_some (cond t (Some p) (get a name)) ≡ is_some (cond t (Some q) (get b name))
  by true = refl
  by false = same name

all_alike : (a b : FinMap name_cmp PlaceValue) (areas : List Name) (ps qs : List PlaceValue) → length ps ≡ length qs → SetAlike a b → SetAlike (all_set a areas ps) (all_set b areas qs)
all_alike a b [] ps qs e same = same
all_alike a b (area ∷ areas) [] [] e same = same
all_alike a b (area ∷ areas) [] (q ∷ qs) e same = absurd (omega (arith, e))
all_alike a b (area ∷ areas) (p ∷ ps) [] e same = absurd (omega (arith, e))
all_alike a b (area ∷ areas) (p ∷ ps) (q ∷ qs) e same = all_alike (insert a area p) (insert b area q) areas ps qs (omega (arith, e)) (insert_alike a b area p q same)

pub mapped : {A B : Type 0} (f : A → B) (o : Option A) → is_some (option_map f o) ≡ is_some o
mapped f None = refl
mapped f (Some a) = refl

both : {A B C : Type 0} (f : A → B → C) (o : Option A) (p : Option B) → is_some (option_and_then (λ a. option_map (f a) p) o) ≡ (is_some o && is_some p)
both f None p = refl
both f (Some a) p = mapped (f a) p

module _ (a b : FinMap name_cmp PlaceValue) (same : SetAlike a b) where
  address_alike : (l : Location) → is_some (address_of a l) ≡ is_some (address_of b l)
  address_alike (Absolute n) = refl
  address_alike (Named name n) = mapped _ (get a name) ∙ same name ∙ sym (mapped _ (get b name))

  places_alike : (ls : List Location) (ns : List ℕ) → is_some (places_of a ls ns) ≡ is_some (places_of b ls ns)
  places_alike [] ns = refl
  places_alike (l ∷ ls) [] = refl
  places_alike (l ∷ ls) (n ∷ ns) = both _ (address_of a l) (places_of a ls ns) ∙ (λ i. address_alike l i && places_alike ls ns i) ∙ sym (both _ (address_of b l) (places_of b ls ns))

  pub resolved_alike : (k : SourceRequest) → is_some (resolved a k) ≡ is_some (resolved b k)
  resolved_alike (written.Release form n location len) = mapped _ (address_of a location) ∙ address_alike location ∙ sym (mapped _ (address_of b location))
  resolved_alike (written.ReleaseArea form n area) = mapped _ (get a area) ∙ same area ∙ sym (mapped _ (get b area))
  resolved_alike (written.ReleaseList form n locations lengths) = mapped _ (places_of a locations lengths) ∙ places_alike locations lengths ∙ sym (mapped _ (places_of b locations lengths))
  resolved_alike (written.Free pool cell) = mapped _ (address_of a cell) ∙ address_alike cell ∙ sym (mapped _ (address_of b cell))
  resolved_alike (written.Show location n) = mapped _ (address_of a location) ∙ address_alike location ∙ sym (mapped _ (address_of b location))
  resolved_alike (written.Put location bytes) = mapped _ (address_of a location) ∙ address_alike location ∙ sym (mapped _ (address_of b location))
  resolved_alike (written.Move to from n) = both _ (address_of a to) (address_of a from) ∙ (λ i. address_alike to i && address_alike from i) ∙ sym (both _ (address_of b to) (address_of b from))
  resolved_alike (written.Obtain form n ask variable area) = refl
  resolved_alike (written.ObtainList form n lengths start areas) = refl
  resolved_alike (written.ReleaseWhole form n) = refl
  resolved_alike (written.Build pool n size primary secondary loc) = refl
  resolved_alike (written.Get pool conditional cell) = refl
  resolved_alike (written.Delete pool) = refl
  resolved_alike (written.Attach name gifts residence) = refl
  resolved_alike written.Return = refl
  resolved_alike (written.Abend n) = refl

-- ---- how a step ends

module _ (old : State) (t : Name) (k : SourceRequest) (r : Request) (answered : Reply) (new : State) where
  pub data Turned : Type 0 where
    stays : way (answer_of old k r answered) ≡ Stays → new ≡ old → length (places_in answered) ≡ 0 → is_abend answered ≡ false → Turned
    falls : way (answer_of old k r answered) ≡ Falls → Goes_away old.owners t (pool_at old) new.owners (pool_at new) → length (places_in answered) ≡ 0 → is_abend answered ≡ true → new.regions ≡ old.regions → Turned
    goes : Doing old t new answered k r → Turned

  stood : (c : Reply) → answered ≡ c → new ≡ old → way (answer_of old k r c) ≡ Stays → length (places_in c) ≡ 0 → is_abend c ≡ false → Turned
  stood c e same w l b = stays (ap (λ c. way (answer_of old k r c)) e ∙ w) same (ap (λ c. length (places_in c)) e ∙ l) (ap is_abend e ∙ b)

  settled : (c : Consequence) → Settles old t c answered new → Turned
  settled consequence.NotRun x = stood reply.NotRun x.0 x.1 refl refl refl
  settled consequence.Rc4 x = stood reply.Rc4 x.0 x.1 refl refl refl
  settled consequence.NoCell x = stood reply.NoCell x.0 x.1 refl refl refl
  settled (consequence.Abend code) x = falls (ap (λ c. way (answer_of old k r c)) x.1) (end_away old t new x.0) (ap (λ c. length (places_in c)) x.1) (ap is_abend x.1) x.0.drops.regions

  pub turned : (names : FinMap name_cmp PlaceValue) → resolved names k ≡ Some r → Step old t r answered new → Turned
  turned names e (inl x) = settled (reply_to r x.0) x.2
  turned names e (inr x) = goes (does_effect names old t new answered k r e x.1)

-- ---- two steps

apart : {P : Type 0} (x y u v : Way) → x ≡ u → y ≡ v → x ≡ y → (u ≡ v → ⊥) → P
apart x y u v e f g h = absurd (h (sym e ∙ g ∙ f))

stays_falls : Stays ≡ Falls → ⊥
stays_falls e = cc

stays_goes : Stays ≡ Goes → ⊥
stays_goes e = cc

falls_goes : Falls ≡ Goes → ⊥
falls_goes e = cc

module _ (one other : JobValue) (t : Name) (x y : Answer) (a b : JobValue) (like : AreAlike one other) (ways : way x ≡ way y) where
  alike_at : a ≡ one → b ≡ other → AreAlike a b
  alike_at e f = subst (λ a. AreAlike a b) (sym e) (subst (λ b. AreAlike one b) (sym f) like)

  module _ (k : SourceRequest) (r q : Request) (m : Makes Any one t k r x a) (n : Makes Any other t k q y b) where
    finish : (a.state.owners ≡ b.state.owners) × SamePools (pool_at a.state) (pool_at b.state) → length (places_in m.reply) ≡ length (places_in n.reply) → is_abend m.reply ≡ is_abend n.reply → a.state.regions ≡ b.state.regions → AreAlike a b
    finish s l e r = record {
      regions = r;
      owners = s.0;
      named = λ name. ap (λ names. is_some (get names name)) m.names ∙ all_alike one.names other.names (names_set k) (places_in m.reply) (places_in n.reply) l like.named name ∙ sym (ap (λ names. is_some (get names name)) n.names);
      pools = s.1;
      abended = m.abended ∙ (λ i. like.abended i || e i) ∙ sym n.abended;
      former = m.former ∙ like.former ∙ sym n.former;
    }

    pools_kept : a.state ≡ one.state → b.state ≡ other.state → (a.state.owners ≡ b.state.owners) × SamePools (pool_at a.state) (pool_at b.state)
    pools_kept e f = (ap (λ st. st.owners) e ∙ like.owners ∙ sym (ap (λ st. st.owners) f), λ name. ap (λ st. pool_at st name) e ∙ like.pools name ∙ sym (ap (λ st. pool_at st name) f))

    to_x : {v : Way} → way (answer_of one.state k r m.reply) ≡ v → way x ≡ v
    to_x e = ap way m.answer_is ∙ e

    to_y : {v : Way} → way (answer_of other.state k q n.reply) ≡ v → way y ≡ v
    to_y e = ap way n.answer_is ∙ e

    steps : Turned one.state t k r m.reply a.state → Turned other.state t k q n.reply b.state → AreAlike a b
    steps (stays w e l c) (stays u f h d) = finish (pools_kept e f) (l ∙ sym h) (c ∙ sym d) (ap (λ st. st.regions) e ∙ like.regions ∙ sym (ap (λ st. st.regions) f))
    steps (falls w e l c g) (falls u f h d i) =
        finish (away_one t one.state.owners (pool_at one.state) (pool_at other.state) a.state.owners b.state.owners (pool_at a.state) (pool_at b.state) like.pools e (subst (λ o. Goes_away o t (pool_at other.state) b.state.owners (pool_at b.state)) (sym like.owners) f)) (l ∙ sym h) (c ∙ sym d) (g ∙ like.regions ∙ sym i)
    steps (goes d) (goes e) =
        finish (one_effect t one.state.owners (pool_at one.state) (pool_at other.state) a.state.owners b.state.owners (pool_at a.state) (pool_at b.state) like.pools k d.effect (subst (λ o. Effect k t o (pool_at other.state) b.state.owners (pool_at b.state)) (sym like.owners) e.effect)) (d.count ∙ sym e.count) (d.whole ∙ sym e.whole) (d.regions ∙ like.regions ∙ sym e.regions)
    steps (stays w e l c) (falls u f h d i) = apart (way x) (way y) Stays Falls (to_x w) (to_y u) ways stays_falls
    steps (stays w e l c) (goes d) = apart (way x) (way y) Stays Goes (to_x w) (to_y d.goes) ways stays_goes
    steps (falls w e l c g) (stays u f h d) = apart (way y) (way x) Stays Falls (to_y u) (to_x w) (sym ways) stays_falls
    steps (falls w e l c g) (goes d) = apart (way x) (way y) Falls Goes (to_x w) (to_y d.goes) ways falls_goes
    steps (goes d) (stays u f h e) = apart (way y) (way x) Stays Goes (to_y u) (to_x d.goes) (sym ways) stays_goes
    steps (goes d) (falls u f h e i) = apart (way y) (way x) Falls Goes (to_y u) (to_x d.goes) (sym ways) falls_goes

  asks : (k : SourceRequest) (o p : Option Request) → resolved one.names k ≡ o → resolved other.names k ≡ p → is_some o ≡ is_some p → Asks Any one t k o x a → Asks Any other t k p y b → AreAlike a b
  asks k None None e f s m n = alike_at m.1 n.1
  asks k None (Some q) e f s m n = false_true s
  asks k (Some r) None e f s m n = true_false s
  asks k (Some r) (Some q) e f s m n = steps k r q m n (turned one.state t k r m.reply a.state one.names e m.step) (turned other.state t k q n.reply b.state other.names f n.step)

  says : (s : Statement) → AnswersTo Any one t s x a → AnswersTo Any other t s y b → AreAlike a b
  says (statement.Region below above fill residence) m n = absurd m
  says (statement.Request k) m n = asks k (resolved one.names k) (resolved other.names k) refl refl (resolved_alike one.names other.names like.named k) m n
  says (statement.Where name) m n = alike_at m.1 n.1
  says statement.ReportSubpools m n = alike_at m.1 n.1
  says statement.ReportMap m n = alike_at m.1 n.1

pub alike_law : StaysAlike
alike_law one other t s x y a b like d e w =
    by_two (not (is_active one.state.owners t)) d (subst (λ o. MatchBool (not (is_active o t)) (OnlyAnswers other NotRun y b) (AnswersTo Any other t s y b)) (sym like.owners) e)
    (λ m n. alike_at one other t x y a b like w m.1 n.1)
    (λ m n. says one other t x y a b like w s m n)
