-- The lines of change of a run make a picture of the step after each line.
use Rattle.std.proofs.Common.{◌≡◌, ℕ, ◌+◌, inl, inr, not, Bool, true, false, cond, List, [], ◌∷◌, ◌++◌, length, length-append, Option, Some, None, refl, sym, ap, ◌∙◌, subst, arith, nat_cmp}
use Rattle.std.specs.FinMap.{empty, get, get-empty, get-insert}
use Rattle.mvs_model.specs.declared.line.Line.{Line}
use Rattle.mvs_model.specs.declared.line.Line.TheVariants as line
use Rattle.mvs_model.specs.declared.line.Statement.{Statement}
use Rattle.mvs_model.specs.declared.line.Statement.TheVariants as says
use Rattle.mvs_model.specs.declared.line.SourceRequest.{SourceRequest}
use Rattle.mvs_model.specs.declared.line.SourceRequest.TheVariants as written
use Rattle.mvs_model.specs.declared.name.Name.{Name}
use Rattle.mvs_model.specs.declared.request.Reply.{Reply}
use Rattle.mvs_model.specs.declared.request.Reply.TheVariants as reply
use Rattle.mvs_model.specs.declared.request.Request.{Request}
use Rattle.mvs_model.specs.declared.request.Request.TheVariants as request
use Rattle.mvs_model.specs.Answers.{Answer, Event, Region, StepEnded, AnswerTo}
use Rattle.mvs_model.specs.Answers as answer
use Rattle.mvs_model.specs.Card.{CardValue}
use Rattle.mvs_laws.specs.Going.{Holds}
use Rattle.mvs_model.specs.Job.{JobValue, job_at}
use Rattle.mvs_laws.specs.Laws.{StaysWellFormed}
use Rattle.mvs_model.specs.Lines.{card_of}
use Rattle.mvs_model.specs.Name.{name_cmp, same_name}
use Rattle.mvs_model.specs.Owners.{entry_cmp, is_active}
use Rattle.mvs_model.specs.Place.{PlaceValue}
use Rattle.mvs_model.specs.Replies.{answer_of, done_answer, grant_answer, where_answer}
use Rattle.mvs_model.specs.Resolving.{resolved}
use Rattle.mvs_model.specs.Runs.{Any, Asks, Does, AnswersTo, machine}
use Rattle.mvs_model.specs.State.{State}
use Rattle.mvs_model.specs.Walk.{Leads, Serves, ServesLine, ending, is_first}
use Rattle.mvs_laws.proofs.Going.{leads_keep}
use Rattle.mvs_model.proofs.Orders.{name_cmp_total, same_name_sym}
use Rattle.mvs_model.proofs.Reading.{one_reading}
use Rattle.mvs_model.proofs.Tests.{by_test, true_false}
use Rattle.mvs_laws.proofs.Walking.{leads_next, served_first, served_in}
use Rattle.page.specs.declared.change.Change.{Change}
use Rattle.page.specs.Changes.{begin_changes, changes_of, line_changes, statement_changes}
use Rattle.page.specs.Lines.{carried}
use Rattle.page.specs.Picture.{Both, ChangesDraw, Draws, EachIsDrawn, IsDrawn, IsMark, IsReadAs, Means, Picture, Shows, ShowsBy, blank, replayed_all}
use Rattle.page.proofs.AreasRead.{AreasFit, LineFits, line_fits}
use Rattle.page.proofs.DrawnAnswers.{IsKept}
use Rattle.page.proofs.DrawnLines.{does_shown}
use Rattle.page.proofs.Numbered.{Numbered, numbered_closed, start_numbered}

-- ---- an answer is that of REGION only to REGION

abbrev is_region : Answer → Bool
is_region (Region card) = true
is_region _ = false

granted_region : (a : SourceRequest) (q : PlaceValue) → is_region (grant_answer a q) ≡ false
granted_region (written.Obtain form number ask true area) q = refl
granted_region (written.Obtain form number ask false area) q = refl
granted_region a q = refl

done_region : (st : State) (r : Request) → is_region (done_answer st r) ≡ false
done_region st (request.Show a n) = refl
done_region st r = refl

reply_region : (st : State) (a : SourceRequest) (r : Request) (x : Reply) → is_region (answer_of st a r x) ≡ false
reply_region st a r reply.NotRun = refl
reply_region st a r reply.Rc0 = refl
reply_region st a r reply.Rc4 = refl
reply_region st a r (reply.Obtained p) = granted_region a p
reply_region st a r (reply.Listed ps) = refl
reply_region st a r (reply.Cell p) = refl
reply_region st a r reply.NoCell = refl
reply_region st a r reply.Attached = refl
reply_region st a r reply.Ended = refl
reply_region st a r reply.Done = done_region st r
reply_region st a r (reply.Abended code fallen) = refl

where_region : (v : Option PlaceValue) → is_region (where_answer v) ≡ false
where_region None = refl
where_region (Some q) = refl

asks_region : (old new : JobValue) (t : Name) (a : SourceRequest) (o : Option Request) (said : Answer) → Asks Any old t a o said new → is_region said ≡ false
asks_region old new t a None said h = ap is_region h.0
asks_region old new t a (Some r) said h = ap is_region h.answer_is ∙ reply_region old.state a r h.reply

says_region : (old new : JobValue) (t : Name) (s : Statement) (said : Answer) → AnswersTo Any old t s said new → is_region said ≡ false
says_region old new t (says.Region below above fill residence) said h = absurd h
says_region old new t (says.Request a) said h = asks_region old new t a (resolved old.names a) said h
says_region old new t (says.Where name) said h = ap is_region h.0 ∙ where_region (get old.names name)
says_region old new t says.ReportSubpools said h = ap is_region h.0
says_region old new t says.ReportMap said h = ap is_region h.0

does_region : (old new : JobValue) (t : Name) (s : Statement) (said : Answer) → Does Any old t s said new → is_region said ≡ false
does_region old new t s said h = by_test (not (is_active old.state.owners t)) h (λ _ x. ap is_region x.0) (λ _ x. says_region old new t s said x)

-- what such a statement did
said_is : (t u : Name) (s : Statement) (said : Answer) (new : JobValue) → is_region said ≡ false → line_changes (line.Statement t s) (Some new) (u, said) ≡ statement_changes u s said new
said_is t u s answer.NotRun new e = refl
said_is t u s answer.NoName new e = refl
said_is t u s (answer.At a) new e = refl
said_is t u s answer.Rc0 new e = refl
said_is t u s (answer.Granted n) new e = refl
said_is t u s answer.Rc4 new e = refl
said_is t u s answer.Cell new e = refl
said_is t u s answer.NoCell new e = refl
said_is t u s answer.Attached new e = refl
said_is t u s answer.Ended new e = refl
said_is t u s answer.Done new e = refl
said_is t u s (answer.Data bytes) new e = refl
said_is t u s (answer.Abended code fallen) new e = refl
said_is t u s (answer.Subpools lines) new e = refl
said_is t u s (answer.Map runs) new e = refl
said_is t u s (Region card) new e = true_false e

-- ---- a step begins

begin_shown : (carries : Change → List ℕ) (card : CardValue) (former : Bool) (p : Picture) → ShowsBy (Means (job_at card former).state.owners) (replayed_all carries p (begin_changes card)) (job_at card former)
begin_shown carries card former p = record {
  regions = refl;
  held = λ d. subst (Both (IsMark (Means (job_at card former).state.owners)) None) (sym (get-empty nat_cmp d)) tt;
  bytes = λ a b is. absurd (let none : None ≡ Some b = sym (get-empty nat_cmp a) ∙ is in cc);
  tasks = λ x. ap (λ b. cond b (Some (record { mother = None; residence = card.residence })) None) (same_name_sym card.name x)
      ∙ ap (cond (same_name x card.name) (Some (record { mother = None; residence = card.residence }))) (sym (get-empty name_cmp x)) ∙ sym (get-insert name_cmp_total empty card.name (record { mother = None; residence = card.residence }) x);
  subpools = λ t n. subst (Both (Means (job_at card former).state.owners) None) (sym (get-empty entry_cmp (t, n))) tt;
  names = λ n. sym (get-empty name_cmp n);
  pools = λ n. subst (Both (IsDrawn (Means (job_at card former).state.owners)) None) (sym (get-empty name_cmp n)) tt;
}

-- ---- a line

-- What a step of a run keeps, if there is one.
abbrev KeptStep : Option JobValue → Type 0
KeptStep step = Holds IsKept step

region_shown : (number : ℕ) (old : Option JobValue) (t u : Name) (s : Statement) (card : CardValue) (former : Bool) (new : Option JobValue) (events : List Event) (p : Picture)
    → events ≡ ending machine old ++ AnswerTo number u (Region card) ∷ [] → new ≡ Some (job_at card former) → Shows (replayed_all (carried new) p (changes_of (line.Statement t s) events new)) new
region_shown number old t u s card former new events p e n =
    subst (λ events. Shows (replayed_all (carried new) p (changes_of (line.Statement t s) events new)) new) (sym e)
    (subst (λ new. Shows (replayed_all (carried new) p (changes_of (line.Statement t s) (ending machine old ++ AnswerTo number u (Region card) ∷ []) new)) new) (sym n) (at old)) where
      at : (old : Option JobValue) → Shows (replayed_all (carried (Some (job_at card former))) p (changes_of (line.Statement t s) (ending machine old ++ AnswerTo number u (Region card) ∷ []) (Some (job_at card former)))) (Some (job_at card former))
      at None = begin_shown (carried (Some (job_at card former))) card former p
      at (Some job) = begin_shown (carried (Some (job_at card former))) card former p

serves_shown : (number : ℕ) (old : Option JobValue) (l : Line) (events : List Event) (new : Option JobValue) (p : Picture) → LineFits l → KeptStep old → KeptStep new → Serves machine number old l events new → Shows p old → Shows (replayed_all (carried new) p (changes_of l events new)) new
serves_shown number old line.Nothing events new p fit before trailing h shows =
    subst (λ events. Shows (replayed_all (carried new) p (changes_of line.Nothing events new)) new) (sym h.0) (subst (Shows p) (sym h.1) shows)
serves_shown number None (line.Statement t s) events new p fit before trailing h shows =
    served_first machine (λ _. Unit {0}) (λ s. Shows (replayed_all (carried new) p (changes_of (line.Statement t s) events new)) new) number t s events new h tt
    (λ below above fill residence _ x. region_shown number None t t (says.Region below above fill residence) (card_of t below above fill residence) _ new events p x.0 x.1)
serves_shown number (Some job) (line.Statement t s) events new p fit before trailing h shows =
    served_in machine AreasFit (λ s. Shows (replayed_all (carried new) p (changes_of (line.Statement t s) events new)) new) number job t s events new h fit
    (λ below above fill residence _ x. region_shown number (Some job) t t (says.Region below above fill residence) (card_of t below above fill residence) _ new events p x.0 x.1)
    (λ s _ fit x.
    subst (λ events. Shows (replayed_all (carried new) p (changes_of (line.Statement t s) events new)) new) (sym x.3)
    (subst (λ new. Shows (replayed_all (carried new) p (changes_of (line.Statement t s) (AnswerTo number t x.0 ∷ []) new)) new) (sym x.4)
    (subst (λ cs. ShowsBy (Means x.1.state.owners) (replayed_all (carried (Some x.1)) p cs) x.1) (sym (said_is t t s x.0 x.1 (does_region job x.1 t s x.0 x.2)))
    (does_shown job x.1 t x.0 p shows s fit before (subst KeptStep x.4 trailing) x.2))))

-- what a line says that is served is what it is read as
read_is : (number : ℕ) (old : Option JobValue) (l : List ℕ) (read : Line) (events : List Event) (new : Option JobValue) → IsReadAs old l read → (h : ServesLine machine number old l events new) → h.0 ≡ read
read_is number old l read events new (inl is) h = one_reading.one_line (is_first old) l h.0 read h.1 is
read_is number old l read events new (inr fault) h = absurd (one_reading.not_both (is_first old) l h.0 fault.0 h.1 fault.1)

line_shown : (number : ℕ) (old : Option JobValue) (l : List ℕ) (read : Line) (events : List Event) (new : Option JobValue) (p : Picture) → IsReadAs old l read → ServesLine machine number old l events new → KeptStep old → KeptStep new
    → Shows p old → Shows (replayed_all (carried new) p (changes_of read events new)) new
line_shown number old l read events new p is h before trailing shows =
    subst (λ r. Shows (replayed_all (carried new) p (changes_of r events new)) new) (read_is number old l read events new is h) (serves_shown number old h.0 events new p (line_fits (is_first old) l h.0 h.1) before trailing h.2 shows)

-- ---- a run

leads_drawn : (lines : List (List ℕ)) (number : ℕ) (old new : Option JobValue) (events : List Event) (before : Picture) → Leads machine number old lines events new → (after : Picture) × Draws number old before lines new after
leads_drawn [] number old new events before h = (before, (h.1, refl))
leads_drawn (l ∷ lines) number old new events before (inl h) = absurd h
leads_drawn (l ∷ lines) number old new events before (inr (mid, so_far, rest, serves, e, more)) =
    let r = leads_drawn lines (number + 1) mid new rest (replayed_all (carried mid) before (changes_of serves.0 so_far mid)) more in
    (r.0, (serves.0, so_far, mid, inl serves.1, serves, r.1))

pub each_is_drawn : EachIsDrawn
each_is_drawn lines events step h = leads_drawn lines 1 None step events blank h

module _ (well : StaysWellFormed) where
  -- the step of a run is kept
  kept_step : (served : List (List ℕ)) (events : List Event) (step : Option JobValue) → Leads machine 1 None served events step → KeptStep step
  kept_step served events None h = tt
  kept_step served events (Some job) h = record {
    well = well job (record { lines = served; events = events; leads = h });
    numbered = leads_keep (λ st. Numbered st.owners) numbered_closed (λ card is. start_numbered card) Any 1 served None events (Some job) h tt;
  }

  runs_shown : (lines served : List (List ℕ)) (so_far : List Event) (number : ℕ) (old new : Option JobValue) (before after : Picture) → number ≡ 1 + length served → Leads machine 1 None served so_far old → Shows before old → Draws number old before lines new after → Shows after new
  runs_shown [] served so_far number old new before after e leads shows h = subst (λ q. Shows q new) (sym h.1) (subst (Shows before) (sym h.0) shows)
  runs_shown (l ∷ lines) served so_far number old new before after e leads shows (read, events, mid, is, serves, more) =
      let next = leads_next machine served l 1 number None old mid so_far events e leads serves in
      let here = line_shown number old l read events mid before is serves (kept_step served so_far old leads) (kept_step (served ++ l ∷ []) (so_far ++ events) mid next) shows in
      runs_shown lines (served ++ l ∷ []) (so_far ++ events) (number + 1) mid new (replayed_all (carried mid) before (changes_of read events mid)) after (omega (arith, e, length-append served (l ∷ []))) next here more

  pub changes_draw : ChangesDraw
  changes_draw lines step picture h = runs_shown lines [] [] 1 None step blank picture refl (refl, refl) refl h
