-- The lines that set names, kept after a line that was served.
use Rattle.std.proofs.Common.{◌≡◌, ◌≢◌, ℕ, Bool, true, false, not, List, [], ◌∷◌, map, Option, Some, None, inl, inr, refl, sym, ap, subst, ◌∙◌}
use Rattle.std.specs.FinMap.{FinMap, get}
use Rattle.mvs_model.proofs.StepCases.{step_cases}
use Rattle.mvs_model.specs.declared.name.Name.{Name}
use Rattle.mvs_model.specs.declared.code.Code.{Code}
use Rattle.mvs_model.specs.declared.code.Form.{Form}
use Rattle.mvs_model.specs.declared.line.Line.{Line}
use Rattle.mvs_model.specs.declared.line.Line.TheVariants as line
use Rattle.mvs_model.specs.declared.line.Statement.TheVariants as says
use Rattle.mvs_model.specs.declared.line.SourceRequest.{SourceRequest}
use Rattle.mvs_model.specs.declared.line.SourceRequest.TheVariants as written
use Rattle.mvs_model.specs.declared.request.Request.{Request}
use Rattle.mvs_model.specs.declared.request.Request.TheVariants as request
use Rattle.mvs_model.specs.declared.request.Reply.{Reply}
use Rattle.mvs_model.specs.declared.request.Reply.TheVariants.{NotRun, Rc4, Obtained, Listed, Cell, NoCell, Abended}
use Rattle.mvs_model.specs.Answers.{Answer, Event}
use Rattle.mvs_model.specs.Answers as answer
use Rattle.mvs_model.specs.Changes.{ListGrant}
use Rattle.mvs_model.specs.Codes.{is_conditional}
use Rattle.mvs_model.specs.Job.{JobValue}
use Rattle.mvs_model.specs.Memory.{SetsName, StopsForMemory}
use Rattle.mvs_model.specs.Name.{name_cmp}
use Rattle.mvs_model.specs.Owners.{is_active, effective_task}
use Rattle.mvs_model.specs.Place.{PlaceValue}
use Rattle.mvs_model.specs.Pools.{Pool, cell_at}
use Rattle.mvs_model.specs.Replies.{answer_of}
use Rattle.mvs_model.specs.Resolving.{names_set, places_in, resolved}
use Rattle.mvs_model.specs.Runs.{Any, Asks, Does, machine}
use Rattle.mvs_model.specs.State.{State}
use Rattle.mvs_model.specs.Consequences.{Abends}
use Rattle.mvs_model.proofs.ByCase.{Fails, GetsNone, GetStep, ObtainListStep, ObtainStep}
use Rattle.mvs_model.specs.Requests.{Gets, is_invalid, side_for}
use Rattle.mvs_model.specs.Steps.{Step}
use Rattle.mvs_model.specs.Walk.{Serves, ServesLine}
use Rattle.mvs_model.specs.Want.{WantValue, fixed_want, want_of}
use Rattle.mvs_model.specs.declared.want.Side.TheVariants.{Below}
use Rattle.mvs_model.proofs.Reading.{one_reading}
use Rattle.mvs_model.proofs.Tests.{by_test}
use Rattle.mvs_job.specs.declared.walk.LineEvent.{LineEvent}
use Rattle.mvs_job.specs.declared.walk.LineEvent.TheVariants as line_event
use Rattle.mvs_job.specs.Granting.{is_grant, reports_grant}
use Rattle.mvs_job.specs.NamedAddress.{HasLengths, AreNamesAfter, RecordsOrigins, NameOrigins, SetsSome, lines_before, names_after}
use Rattle.mvs_job.specs.LineEvents.{IsReadIn, ServesAs, WalkValue, events_of_line}

-- ---- a granted request that sets names gives them places

module _ (st : State) (a : SourceRequest) (r : Request) where
  abbrev Gives : Reply → Type 0
  Gives reply = is_grant (answer_of st a r reply) ≡ true → places_in reply ≢ []

  no_grant : (reply other : Reply) → reply ≡ other → is_grant (answer_of st a r other) ≡ false → Gives reply
  no_grant reply other is e g = absurd (let f : true ≡ false = sym g ∙ ap (λ x. is_grant (answer_of st a r x)) is ∙ e in cc)

  places : (reply other : Reply) → reply ≡ other → places_in other ≢ [] → Gives reply
  places reply other is some g e = some (ap places_in (sym is) ∙ e)

  abend_gives : (t : Name) (code : Code) (reply : Reply) (new : State) → Abends st t code reply new → Gives reply
  abend_gives t code reply new h = no_grant reply (Abended code h.0.fallen) h.1 refl

  fail_gives : (b : Bool) (t : Name) (code : Code) (reply : Reply) (new : State) → Fails b st t code reply new → Gives reply
  fail_gives true t code reply new h = no_grant reply Rc4 h.0 refl
  fail_gives false t code reply new h = abend_gives t code reply new h

  one_place : (p : PlaceValue) → p ∷ [] ≢ []
  one_place p e = cc

  obtain_gives : (t : Name) (form : Form) (number : ℕ) (want : WantValue) (reply : Reply) (new : State) → ObtainStep st t form number want reply new → Gives reply
  obtain_gives t form number want reply new h =
      by_test (is_invalid number) h (λ _ a. abend_gives t _ reply new a) (λ _ k. elim k [ inl f ↦ fail_gives (is_conditional form) t _ reply new f.1 | inr g ↦ places reply (Obtained g.0) g.1 (one_place g.0) ])

  each_place : (old : State) (t : Name) (number : ℕ) (wants : List WantValue) (ps : List PlaceValue) (new : State) → wants ≢ [] → ListGrant old t number wants ps new → ps ≢ []
  each_place old t number [] ps new some h = absurd (some refl)
  each_place old t number (want ∷ wants) [] new some h = absurd h
  each_place old t number (want ∷ wants) (p ∷ ps) new some h = λ e. cc

  list_gives : (t : Name) (form : Form) (number : ℕ) (wants : List WantValue) (reply : Reply) (new : State) → wants ≢ [] → ObtainListStep st t form number wants reply new → Gives reply
  list_gives t form number wants reply new some h =
      by_test (is_invalid number) h (λ _ a. abend_gives t _ reply new a)
      (λ _ k. elim k [ inl f ↦ fail_gives (is_conditional form) t _ reply new f.1 | inr g ↦ places reply (Listed g.0) g.1 (each_place st (effective_task st.owners t number) number wants g.0 new some g.2) ])

  cell_gives : (mid : State) (name : Name) (pool : Pool) (c : ℕ) (reply : Reply) (new : State) → Gets mid name pool c reply new → Gives reply
  cell_gives mid name pool c reply new g = places reply (Cell (cell_at pool c)) g.1 (one_place (cell_at pool c))

  none_gives : (t name : Name) (conditional : Bool) (pool : Pool) (reply : Reply) (new : State) → GetsNone st t name conditional pool reply new → Gives reply
  none_gives t name true pool reply new k = no_grant reply NoCell k.0 refl
  none_gives t name false pool reply new (inl short) = abend_gives t _ reply new short.1
  none_gives t name false pool reply new (inr more) = cell_gives more.1 name _ more.3.0 reply new more.3.2

  get_gives : (t name : Name) (conditional : Bool) (pool : Option Pool) (reply : Reply) (new : State) → GetStep st t name conditional pool reply new → Gives reply
  get_gives t name conditional None reply new h = abend_gives t _ reply new h
  get_gives t name conditional (Some pool) reply new (inl free) = cell_gives st name pool free.0 reply new free.2
  get_gives t name conditional (Some pool) reply new (inr none) = none_gives t name conditional pool reply new none.1

each_wanted : (f : ℕ → WantValue) (lengths : List ℕ) → lengths ≢ [] → map f lengths ≢ []
each_wanted f [] some e = some refl
each_wanted f (n ∷ lengths) some e = cc

some_same : (x y : Request) → Some x ≡ Some y → x ≡ y
some_same x y e = cc

gives : (names : FinMap name_cmp PlaceValue) (a : SourceRequest) (r : Request) (old : State) (t : Name) (reply : Reply) (new : State) → resolved names a ≡ Some r → names_set a ≢ [] → HasLengths a → Step old t r reply new → Gives old a r reply
gives names (written.Obtain form number ask variable area) r old t reply new e some long step =
    let a = written.Obtain form number ask variable area in
    by_test (not (is_active old.owners t)) (step_cases old t (request.Obtain form number ask) reply new (subst (λ r. Step old t r reply new) (sym (some_same _ r e)) step)) (λ _ k. no_grant old a r reply NotRun k.0 refl) (λ _ k. obtain_gives old a r t form number (want_of ask (side_for old t form ask.loc)) reply new k)
gives names (written.ObtainList form number lengths start areas) r old t reply new e some long step =
    let a = written.ObtainList form number lengths start areas in
    by_test (not (is_active old.owners t)) (step_cases old t (request.ObtainList form number lengths start) reply new (subst (λ r. Step old t r reply new) (sym (some_same _ r e)) step)) (λ _ k. no_grant old a r reply NotRun k.0 refl)
    (λ _ k. list_gives old a r t form number (map (λ n. fixed_want n start Below) lengths) reply new (each_wanted (λ n. fixed_want n start Below) lengths long) k)
gives names (written.Get pool conditional cell) r old t reply new e some long step =
    let a = written.Get pool conditional cell in
    by_test (not (is_active old.owners t)) (step_cases old t (request.Get pool conditional) reply new (subst (λ r. Step old t r reply new) (sym (some_same _ r e)) step)) (λ _ k. no_grant old a r reply NotRun k.0 refl) (λ _ k. get_gives old a r t pool conditional (get old.pools pool) reply new k)
gives names a r old t reply new e some long step = absurd (some refl)

module _ (job : JobValue) (t : Name) (a : SourceRequest) (some : names_set a ≢ []) (long : HasLengths a) (ans : Answer) (new : JobValue) (grant : is_grant ans ≡ true) where
  not_granted : (other : Answer) → ans ≡ other → is_grant other ≡ false → ⊥
  not_granted other is e = let f : true ≡ false = sym grant ∙ ap is_grant is ∙ e in cc

  asks : (o : Option Request) → resolved job.names a ≡ o → Asks Any job t a o ans new → SetsName job t a
  asks None is k = absurd (not_granted answer.NoName k.0 refl)
  asks (Some r) is m = record {
    request = r;
    reply = m.reply;
    new = new.state;
    resolves = is;
    step = m.step;
    names = some;
    places = gives job.names a r job.state t m.reply new.state is some long m.step (ap is_grant (sym m.answer_is) ∙ grant);
  }

  sets_name : Does Any job t (says.Request a) ans new → SetsName job t a
  sets_name h = by_test (not (is_active job.state.owners t)) h (λ _ k. absurd (not_granted answer.NotRun k.0 refl)) (λ _ k. asks (resolved job.names a) refl k)

-- ---- a line

module _ (number : ℕ) (l : List ℕ) (events : List Event) (new : Option JobValue) where
  -- memory may be wanting for a line that is granted such a request
  stops : (step : Option JobValue) (read : Line) → IsReadIn step l read → SetsSome read → ServesLine machine number step l events new → reports_grant events ≡ true → StopsForMemory number step (l ∷ []) []
  stops step read (inr (fault, of, is)) sets h g = absurd (subst SetsSome is sets)
  stops None (line.Statement t (says.Request a)) (inl of) sets (other, is, serves) g = absurd (subst (λ x. Serves machine number None x events new) (one_reading.one_line true l other (line.Statement t (says.Request a)) is of) serves)
  stops None read (inl of) sets h g = absurd sets
  stops (Some job) (line.Statement t (says.Request a)) (inl of) (some, long) (other, is, serves) g =
      let here = subst (λ x. Serves machine number (Some job) x events new) (one_reading.one_line false l other (line.Statement t (says.Request a)) is of) serves in
      (line.Statement t (says.Request a), of, (refl, sets_name job t a some long here.0 here.1 (ap reports_grant (sym here.3) ∙ g) here.2))
  stops (Some job) read (inl of) sets h g = absurd sets

  -- the lines that set names after it
  set_at : (step : Option JobValue) (set mid later : NameOrigins) (read : Line) → mid ≡ lines_before step set → IsReadIn step l read → ServesLine machine number step l events new → later ≡ names_after number mid read events → AreNamesAfter number step set l events later
  set_at None set mid later read before (inr (fault, of, is)) h e = e ∙ ap (λ x. names_after number mid x events) is ∙ before
  set_at None set mid later line.Nothing before (inl of) h e = e ∙ before
  set_at None set mid later (line.Statement t (says.Region below above fill residence)) before (inl of) h e = e
  set_at None set mid later (line.Statement t (says.Request a)) before (inl of) (other, is, serves) e = absurd (subst (λ x. Serves machine number None x events new) (one_reading.one_line true l other (line.Statement t (says.Request a)) is of) serves)
  set_at None set mid later (line.Statement t (says.Where name)) before (inl of) h e = e ∙ before
  set_at None set mid later (line.Statement t says.ReportSubpools) before (inl of) h e = e ∙ before
  set_at None set mid later (line.Statement t says.ReportMap) before (inl of) h e = e ∙ before
  set_at (Some job) set mid later read before (inl of) h e = (read, of, e ∙ ap (λ m. names_after number m read events) before)
  set_at (Some job) set mid later read before (inr (fault, of, is)) (other, says, serves) e = absurd (one_reading.not_both false l other fault says of)

module _ (w w' : WalkValue) (l : List ℕ) (read : Line) (is : IsReadIn w.step l read) where
  pub stops_naming : (t : LineEvent) → ServesAs w l t w' → SetsSome read → reports_grant (events_of_line w.number w' t) ≡ true → StopsForMemory w.number w.step (l ∷ []) []
  stops_naming (line_event.Faulted fault) h sets g = absurd (let f : false ≡ true = g in cc)
  stops_naming line_event.Nothing h sets g = absurd (let f : false ≡ true = g in cc)
  stops_naming (line_event.StepBegan None card) h sets g = absurd (let f : false ≡ true = g in cc)
  stops_naming (line_event.StepBegan (Some abended) card) h sets g = absurd (let f : false ≡ true = g in cc)
  stops_naming (line_event.Answered t a) h sets g = stops w.number l (events_of_line w.number w' (line_event.Answered t a)) w'.step w.step read is sets h g

  pub keeps_lines : (set mid later : NameOrigins) → mid ≡ lines_before w.step set → (t : LineEvent) → ServesAs w l t w' → later ≡ names_after w.number mid read (events_of_line w.number w' t) → RecordsOrigins w set l w' t later
  keeps_lines set mid later before (line_event.Faulted fault) h e = tt
  keeps_lines set mid later before line_event.Nothing h e = set_at w.number l (events_of_line w.number w' line_event.Nothing) w'.step w.step set mid later read before is h e
  keeps_lines set mid later before (line_event.StepBegan end card) h e = set_at w.number l (events_of_line w.number w' (line_event.StepBegan end card)) w'.step w.step set mid later read before is h e
  keeps_lines set mid later before (line_event.Answered t a) h e = set_at w.number l (events_of_line w.number w' (line_event.Answered t a)) w'.step w.step set mid later read before is h e
