-- A line of a job, and of each run that differs from the job in nothing but places.
use Rattle.std.proofs.Common.{Decides as Tests, ◌≡◌, ℕ, ◌+◌, ◌<◌, ◌^◌, arith, ◌⊎◌, inl, inr, Bool, true, false, List, [], ◌∷◌, ◌++◌, length, drop, Option, Some, None, append-nil, refl, sym, ap, ◌∙◌, subst}
use Rattle.std.specs.Prelude.{not, ◌&&◌, ◌||◌, if◌then◌else◌}
use Rattle.std.specs.Bool.{MatchBool}
use Rattle.std.proofs.lemmas.List.{append_cancel_left}
use Rattle.mvs_laws.proofs.Types.{Name, Request, SourceRequest, Statement, Line, Fault, Outcome}
use Rattle.mvs_model.specs.declared.line.Line.TheVariants as line
use Rattle.mvs_model.specs.declared.line.Statement.TheVariants as statement
use Rattle.mvs_model.specs.declared.line.SourceRequest.TheVariants as written
use Rattle.mvs_model.specs.declared.request.Reply.{Reply}
use Rattle.mvs_model.specs.declared.request.Reply.TheVariants as reply
use Rattle.mvs_model.specs.declared.request.Request.TheVariants as request
use Rattle.mvs_model.specs.Place.{PlaceValue}
use Rattle.mvs_model.specs.Owners.{is_active}
use Rattle.mvs_model.specs.Answers.{Answer, Event, AnswerTo, Faulted, StepEnded, Region, NotRun}
use Rattle.mvs_model.specs.Job.{JobValue, job_at}
use Rattle.mvs_model.specs.Lines.{card_of}
use Rattle.mvs_model.specs.Reading.{FaultOf, LineOf}
use Rattle.mvs_model.specs.Resolving.{resolved}
use Rattle.mvs_model.specs.Replies.{answer_of, done_answer, grant_answer, where_answer}
use Rattle.std.specs.FinMap.{get}
use Rattle.mvs_model.specs.State.{State}
use Rattle.mvs_model.specs.Runs.{Any, Asks, Condition, Does, AnswersTo, machine}
use Rattle.mvs_model.specs.Texts.{answer_text, printing}
use Rattle.mvs_model.specs.Walk.{Faults, Serves, ending, has_abended, is_first}
use Rattle.mvs_model.proofs.Reading.{one_reading}
use Rattle.mvs_model.proofs.Tests.{false_true, true_false}
use Rattle.mvs_laws.proofs.Walking.{Steps}
use Rattle.mvs_model.specs.Determined.{one_page}
use Rattle.mvs_model.specs.FullAnswers.{full_answer, ended_with_in}
use Rattle.mvs_model.specs.declared.answer.Answer.{Answer as Short}
use Rattle.mvs_job.specs.declared.walk.LineEvent.{LineEvent}
use Rattle.mvs_job.specs.declared.walk.LineEvent.TheVariants as tells
use Rattle.mvs_job.specs.LineEvents.{ServesAsUnder, WalkValue, events_of_line, full_answer_in}
use Rattle.judge.specs.Deciding.{InBounds, IsServed, MayPrint}
use Rattle.mvs_model.specs.View.{IsBounded}
use Rattle.judge.proofs.Reported.{undigited_both}
use Rattle.judge.proofs.Mapped.{Starts, starts_past, starts_word, walk_starts}
use Rattle.judge.specs.Excluding.{Alike, BeginsWord, EndsMap, IsBegunLine, IsPast, IsUndecidedAt, IsVerdict, LineShowsSome, ShowsSome, answer_in, is_certain, is_shown}
use Rattle.judge.specs.Reporting.{DiffersInReport, undigited}
use Rattle.judge.specs.declared.exclusion.LineVerdict.TheVariants as verdict
use Rattle.judge.specs.Outline.{AreAlike, BeginsOpen, head, is_settled}
use Rattle.judge.specs.Shapes.{AreUnlikeAfter, DiffersInShape}
use Rattle.judge.proofs.Compared.{begins_alike, is_followed, map_alike, report_alike, report_same, settled_alike, shown_alike, unlike_alike}
use Rattle.judge.proofs.Decided.{HasEvent, Serving, fault_served, line_served, may_serve, one_leads, event_cases}

-- ---- a job is like itself

self : (job : JobValue) → AreAlike job job
self job = record { regions = refl; owners = refl; named = λ name. refl; pools = λ name. refl; abended = refl; former = refl }

pub alike_self : (step : Option JobValue) → Alike step step
alike_self None = tt
alike_self (Some job) = self job

first_alike : (one other : Option JobValue) → Alike one other → is_first one ≡ is_first other
first_alike None None like = refl
first_alike None (Some b) like = absurd like
first_alike (Some a) None like = absurd like
first_alike (Some a) (Some b) like = refl

-- ---- no statement of a step is answered as REGION is

abbrev is_region : Answer → Bool
is_region (Region card) = true
is_region _ = false

replies_apart : (st : State) (k : SourceRequest) (r : Request) (c : Reply) → is_region (answer_of st k r c) ≡ false
replies_apart st k r reply.NotRun = refl
replies_apart st k r reply.Rc0 = refl
replies_apart st k r reply.Rc4 = refl
replies_apart st k r (reply.Obtained p) = at k where
  at : (j : SourceRequest) → is_region (grant_answer j p) ≡ false
  at (written.Obtain form n ask true area) = refl
  at (written.Obtain form n ask false area) = refl
  at _ = refl
replies_apart st k r (reply.Listed ps) = refl
replies_apart st k r (reply.Cell p) = refl
replies_apart st k r reply.NoCell = refl
replies_apart st k r reply.Attached = refl
replies_apart st k r reply.Ended = refl
replies_apart st k r reply.Done = at r where
  at : (q : Request) → is_region (done_answer st q) ≡ false
  at (request.Show a n) = refl
  at _ = refl
replies_apart st k r (reply.Abended code fallen) = refl

asks_apart : (old : JobValue) (t : Name) (k : SourceRequest) (o : Option Request) (x : Answer) (new : JobValue) → Asks Any old t k o x new → is_region x ≡ false
asks_apart old t k None x new m = ap is_region m.0
asks_apart old t k (Some r) x new m = ap is_region m.answer_is ∙ replies_apart old.state k r m.reply

where_apart : (o : Option PlaceValue) → is_region (where_answer o) ≡ false
where_apart None = refl
where_apart (Some p) = refl

says_apart : (old : JobValue) (t : Name) (s : Statement) (x : Answer) (new : JobValue) → AnswersTo Any old t s x new → is_region x ≡ false
says_apart old t (statement.Region below above fill residence) x new m = absurd m
says_apart old t (statement.Request k) x new m = asks_apart old t k (resolved old.names k) x new m
says_apart old t (statement.Where name) x new m = ap is_region m.0 ∙ where_apart (get old.names name)
says_apart old t statement.ReportSubpools x new m = ap is_region m.0
says_apart old t statement.ReportMap x new m = ap is_region m.0

does_apart : (old : JobValue) (t : Name) (s : Statement) (x : Answer) (new : JobValue) → Does Any old t s x new → is_region x ≡ false
does_apart old t s x new m = at _ _ (is_active old.state.owners t) m (λ m. ap is_region m.0) (λ m. says_apart old t s x new m) where
  at : (P Q : Type 0) (active : Bool) → MatchBool (not active) P Q → (P → is_region x ≡ false) → (Q → is_region x ≡ false) → is_region x ≡ false
  at P Q true m f g = g m
  at P Q false m f g = f m

-- ---- the answer to a statement of a step

abbrev answer_at : List Event → Answer
answer_at (AnswerTo number t x ∷ events) = x
answer_at _ = NotRun

-- The answer of the line is that of the statement.
module _ (w w' : WalkValue) (tl : LineEvent) (job : JobValue) (t : Name) (s : Statement) (mine : Steps machine w.number job t s (events_of_line w.number w' tl) w'.step) where
  answered_by : (k : LineEvent) → tl ≡ k → ((u : Name) (a : Short) → (tl ≡ tells.Answered u a) × (mine.0 ≡ full_answer mine.1.state (ended_with_in w'.reply) u a) → (u : Name) × (a : Short) × (tl ≡ tells.Answered u a) × (mine.0 ≡ full_answer mine.1.state (ended_with_in w'.reply) u a))
      → (u : Name) × (a : Short) × (tl ≡ tells.Answered u a) × (mine.0 ≡ full_answer mine.1.state (ended_with_in w'.reply) u a)
  answered_by (tells.Answered u a) e f =
      (u, a, e, sym (ap answer_at (ap (events_of_line w.number w') (sym e) ∙ mine.3)) ∙ ap (λ step. full_answer_in step (ended_with_in w'.reply) u a) mine.4)
  answered_by tells.Nothing e f = absurd (let g : [] ≡ AnswerTo w.number t mine.0 ∷ [] = ap (events_of_line w.number w') (sym e) ∙ mine.3 in cc)
  answered_by (tells.StepBegan None card) e f =
      absurd (true_false (ap is_region (ap answer_at (ap (events_of_line w.number w') (sym e) ∙ mine.3)) ∙ does_apart job t s mine.0 mine.1 mine.2))
  answered_by (tells.StepBegan (Some abended) card) e f = absurd (let g : StepEnded abended ∷ AnswerTo w.number card.name (Region card) ∷ [] ≡ AnswerTo w.number t mine.0 ∷ [] = ap (events_of_line w.number w') (sym e) ∙ mine.3 in cc)
  answered_by (tells.Faulted fault) e f = absurd (let g : Faulted w.number fault ∷ [] ≡ AnswerTo w.number t mine.0 ∷ [] = ap (events_of_line w.number w') (sym e) ∙ mine.3 in cc)

  answered : (u : Name) × (a : Short) × (tl ≡ tells.Answered u a) × (mine.0 ≡ full_answer mine.1.state (ended_with_in w'.reply) u a)
  answered = answered_by tl refl (λ u a x. (u, a, x.0, x.1))

  -- whether it is settled
  pub settled_answer : (b : Bool) (sure : Option Answer → Bool) → ((x : Answer) → sure (Some x) ≡ is_settled s x) → ((st : State) (fallen : List Name) → b ≡ sure (answer_in st fallen tl)) → is_settled s mine.0 ≡ b
  settled_answer b sure are f =
      ap (is_settled s) answered.3 ∙ sym (are _) ∙ ap (λ k. sure (answer_in mine.1.state (ended_with_in w'.reply) k)) (sym answered.2) ∙ sym (f mine.1.state (ended_with_in w'.reply))

-- ---- how a line is served in two jobs that differ in nothing but places

-- Places do not decide what the line says.
abbrev pub SettledIn : Line → List Event → Type 0
SettledIn line.Nothing events = Unit {0}
SettledIn (line.Statement t (statement.Region below above fill residence)) events = Unit {0}
SettledIn (line.Statement t s) events = (number : ℕ) (x : Answer) → events ≡ AnswerTo number t x ∷ [] → is_settled s x ≡ true

-- Places decide it.
abbrev pub OpenIn : Line → List Event → Type 0
OpenIn line.Nothing events = ⊥
OpenIn (line.Statement t (statement.Region below above fill residence)) events = ⊥
OpenIn (line.Statement t s) events = (number : ℕ) (x : Answer) → events ≡ AnswerTo number t x ∷ [] → is_settled s x ≡ false

both_steps : {a b c d : Option JobValue} → a ≡ b → c ≡ d → Alike b d → Alike a c
both_steps {a} {b} {c} {d} e f like = subst (λ a. Alike a c) (sym e) (subst (λ c. Alike b c) (sym f) like)

module _ (number : ℕ) (one other : JobValue) (t : Name) (s : Statement) (events more : List Event) (new mid : Option JobValue) (like : AreAlike one other) (x : Steps machine number one t s events new) (y : Steps machine number other t s more mid) where
  step_certain : ((n : ℕ) (a : Answer) → events ≡ AnswerTo n t a ∷ [] → is_settled s a ≡ true) → (events ≡ more) × Alike new mid
  step_certain f =
      let r = settled_alike one other t s x.0 y.0 x.1 y.1 like x.2 y.2 (f number x.0 x.3) in
      (x.3 ∙ ap (λ a. AnswerTo number t a ∷ []) r.0 ∙ sym y.3, both_steps x.4 y.4 r.1)

  printed_one : (u : List ℕ) → printing events ++ u ≡ answer_text number t x.0 ++ u
  printed_one u = ap (λ e. printing e ++ u) x.3 ∙ ap (λ z. z ++ u) (append-nil (answer_text number t x.0))

  printed_other : (v : List ℕ) → printing more ++ v ≡ answer_text number t y.0 ++ v
  printed_other v = ap (λ e. printing e ++ v) y.3 ∙ ap (λ z. z ++ v) (append-nil (answer_text number t y.0))

  step_shown : ((n : ℕ) (a : Answer) → events ≡ AnswerTo n t a ∷ [] → is_settled s a ≡ false) → is_followed s ≡ true → ShowsSome s → (u v : List ℕ) → printing events ++ u ≡ printing more ++ v → Alike new mid × (u ≡ v)
  step_shown f followed some u v e =
      let r = shown_alike one other t s x.0 y.0 x.1 y.1 like x.2 y.2 number u v followed some (f number x.0 x.3) (sym (printed_one u) ∙ e ∙ printed_other v) in
      (both_steps x.4 y.4 r.0, r.1)

  step_report : s ≡ statement.ReportSubpools → IsBounded one.state.regions → ((n : ℕ) (a : Answer) → events ≡ AnswerTo n t a ∷ [] → is_settled s a ≡ false) → (u v : List ℕ) → printing events ++ u ≡ printing more ++ v → Alike new mid × (u ≡ v)
  step_report is bounded f u v e =
      let r = report_alike one other t s x.0 y.0 x.1 y.1 like x.2 y.2 is bounded (f number x.0 x.3) number u v (sym (printed_one u) ∙ e ∙ printed_other v) in
      (both_steps x.4 y.4 r.0, r.1)

  step_map : s ≡ statement.ReportMap → ((n : ℕ) (a : Answer) → events ≡ AnswerTo n t a ∷ [] → is_settled s a ≡ false) → (u v : List ℕ) → BeginsWord u → BeginsWord v → IsPast number t u → IsPast number t v → printing events ++ u ≡ printing more ++ v → Alike new mid × (u ≡ v)
  step_map is f u v word other_word past other_past e =
      let r = map_alike one other t s x.0 y.0 x.1 y.1 like x.2 y.2 is (f number x.0 x.3) number u v word other_word past other_past (sym (printed_one u) ∙ e ∙ printed_other v) in
      (both_steps x.4 y.4 r.0, r.1)

  step_same : s ≡ statement.ReportSubpools → IsBounded one.state.regions → ((n : ℕ) (a : Answer) → events ≡ AnswerTo n t a ∷ [] → is_settled s a ≡ false) → undigited (printing events) ≡ undigited (printing more)
  step_same is bounded f =
      ap undigited (sym (append-nil (printing events)) ∙ printed_one [] ∙ append-nil (answer_text number t x.0))
      ∙ report_same one other t s x.0 y.0 x.1 y.1 like x.2 y.2 is bounded (f number x.0 x.3) number
      ∙ ap undigited (sym (append-nil (answer_text number t y.0)) ∙ sym (printed_other []) ∙ append-nil (printing more))

  step_begins : ((n : ℕ) (a : Answer) → events ≡ AnswerTo n t a ∷ [] → is_settled s a ≡ false) → ShowsSome s → (v : List ℕ) → BeginsOpen number t s (printing more ++ v)
  step_begins f some v = subst (BeginsOpen number t s) (sym (printed_other v)) (begins_alike one other t s x.0 y.0 x.1 y.1 like x.2 y.2 number v some (f number x.0 x.3))

  step_unlike : ((n : ℕ) (a : Answer) → events ≡ AnswerTo n t a ∷ [] → is_settled s a ≡ false) → is_followed s ≡ true → ShowsSome s → (v printed text : List ℕ) → printed ≡ printing events → AreUnlikeAfter (head number t) printed text → text ≡ printing more ++ v → ⊥
  step_unlike f followed some v printed text is (front, after, first, second, differs) e =
      unlike_alike one other t s x.0 y.0 x.1 y.1 like x.2 y.2 number v front after followed some (f number x.0 x.3)
      (sym (append-nil (answer_text number t x.0)) ∙ sym (printed_one []) ∙ append-nil (printing events) ∙ sym is ∙ first) (sym (printed_other v) ∙ sym e ∙ second) differs

ending_alike : (one other : Option JobValue) → Alike one other → ending machine one ≡ ending machine other
ending_alike None None like = refl
ending_alike None (Some b) like = absurd like
ending_alike (Some a) None like = absurd like
ending_alike (Some a) (Some b) like = ap (λ abended. StepEnded abended ∷ []) like.abended

abended_alike : (one other : Option JobValue) → Alike one other → has_abended machine one ≡ has_abended machine other
abended_alike None None like = refl
abended_alike None (Some b) like = absurd like
abended_alike (Some a) None like = absurd like
abended_alike (Some a) (Some b) like = λ i. like.abended i || like.former i

-- the text goes on with an answer that the line can have
abbrev pub BeginsLine : ℕ → Line → List ℕ → Type 0
BeginsLine number line.Nothing text = Unit {0}
BeginsLine number (line.Statement t s) text = BeginsOpen number t s text

module _ (number : ℕ) (events more : List Event) (new mid : Option JobValue) where
  pub certain : (old other : Option JobValue) (said : Line) → Alike old other → Serves machine number old said events new → Serves machine number other said more mid → SettledIn said events → (events ≡ more) × Alike new mid
  certain old other line.Nothing like x y f = (x.0 ∙ sym y.0, both_steps x.1 y.1 like)
  certain old other (line.Statement t (statement.Region below above fill residence)) like x y f =
      let card = card_of t below above fill residence in
      (x.0 ∙ ap (λ e. e ++ AnswerTo number t (Region card) ∷ []) (ending_alike old other like) ∙ sym y.0, both_steps x.1 (y.1 ∙ ap (λ b. Some (job_at card b)) (sym (abended_alike old other like))) (self (job_at card (has_abended machine old))))
  certain None other (line.Statement t (statement.Request k)) like x y f = absurd x
  certain None other (line.Statement t (statement.Where name)) like x y f = absurd x
  certain None other (line.Statement t statement.ReportSubpools) like x y f = absurd x
  certain None other (line.Statement t statement.ReportMap) like x y f = absurd x
  certain (Some one) None (line.Statement t (statement.Request k)) like x y f = absurd y
  certain (Some one) None (line.Statement t (statement.Where name)) like x y f = absurd y
  certain (Some one) None (line.Statement t statement.ReportSubpools) like x y f = absurd y
  certain (Some one) None (line.Statement t statement.ReportMap) like x y f = absurd y
  certain (Some one) (Some other) (line.Statement t (statement.Request k)) like x y f = step_certain number one other t (statement.Request k) events more new mid like x y f
  certain (Some one) (Some other) (line.Statement t (statement.Where name)) like x y f = step_certain number one other t (statement.Where name) events more new mid like x y f
  certain (Some one) (Some other) (line.Statement t statement.ReportSubpools) like x y f = step_certain number one other t statement.ReportSubpools events more new mid like x y f
  certain (Some one) (Some other) (line.Statement t statement.ReportMap) like x y f = step_certain number one other t statement.ReportMap events more new mid like x y f

  pub shown_lines : (old other : Option JobValue) (said : Line) → InBounds old → Alike old other → Serves machine number old said events new → Serves machine number other said more mid → OpenIn said events → is_shown said ≡ true → LineShowsSome said → (u v : List ℕ) → printing events ++ u ≡ printing more ++ v → Alike new mid × (u ≡ v)
  shown_lines (Some one) (Some other) (line.Statement t (statement.Request k)) bounds like x y f is some u v e = step_shown number one other t (statement.Request k) events more new mid like x y f refl some u v e
  shown_lines (Some one) (Some other) (line.Statement t (statement.Where name)) bounds like x y f is some u v e = step_shown number one other t (statement.Where name) events more new mid like x y f refl some u v e
  shown_lines None other (line.Statement t (statement.Request k)) bounds like x y f is some u v e = absurd x
  shown_lines None other (line.Statement t (statement.Where name)) bounds like x y f is some u v e = absurd x
  shown_lines (Some one) None (line.Statement t (statement.Request k)) bounds like x y f is some u v e = absurd y
  shown_lines (Some one) None (line.Statement t (statement.Where name)) bounds like x y f is some u v e = absurd y
  shown_lines old other line.Nothing bounds like x y f is some u v e = absurd f
  shown_lines old other (line.Statement t (statement.Region below above fill residence)) bounds like x y f is some u v e = absurd f
  shown_lines (Some one) (Some other) (line.Statement t statement.ReportSubpools) bounds like x y f is some u v e = step_report number one other t statement.ReportSubpools events more new mid like x y refl bounds f u v e
  shown_lines None other (line.Statement t statement.ReportSubpools) bounds like x y f is some u v e = absurd x
  shown_lines (Some one) None (line.Statement t statement.ReportSubpools) bounds like x y f is some u v e = absurd y
  shown_lines old other (line.Statement t statement.ReportMap) bounds like x y f is some u v e = false_true is

  -- a REPORT MAP whose answer is whole, and a text after it with which the lines after it may go on
  pub map_lines : (old other : Option JobValue) (said : Line) → Alike old other → Serves machine number old said events new → Serves machine number other said more mid → OpenIn said events → (u v : List ℕ) → EndsMap number said u → BeginsWord v → ((t : Name) → IsPast number t v) → printing events ++ u ≡ printing more ++ v → Alike new mid × (u ≡ v)
  map_lines (Some one) (Some other) (line.Statement t statement.ReportMap) like x y f u v ends word past e = step_map number one other t statement.ReportMap events more new mid like x y refl f u v ends.0 word ends.1 (past t) e
  map_lines None other (line.Statement t statement.ReportMap) like x y f u v ends word past e = absurd x
  map_lines (Some one) None (line.Statement t statement.ReportMap) like x y f u v ends word past e = absurd y
  map_lines old other (line.Statement t (statement.Request k)) like x y f u v ends word past e = absurd ends
  map_lines old other (line.Statement t (statement.Where name)) like x y f u v ends word past e = absurd ends
  map_lines old other (line.Statement t statement.ReportSubpools) like x y f u v ends word past e = absurd ends
  map_lines old other (line.Statement t (statement.Region below above fill residence)) like x y f u v ends word past e = absurd ends
  map_lines old other line.Nothing like x y f u v ends word past e = absurd ends

  -- a REPORT SP that a text differs from
  pub report_lines : (old other : Option JobValue) (said : Line) → InBounds old → Alike old other → Serves machine number old said events new → Serves machine number other said more mid → OpenIn said events → (printed text : List ℕ) → printed ≡ printing events → DiffersInReport said printed text → (v : List ℕ) → text ≡ printing more ++ v → ⊥
  report_lines (Some one) (Some other) (line.Statement t statement.ReportSubpools) bounds like x y f printed text is differs v e =
      differs (undigited v) (ap undigited e ∙ undigited_both (printing more) v ∙ ap (λ z. z ++ undigited v) (sym (step_same number one other t statement.ReportSubpools events more new mid like x y refl bounds f) ∙ ap undigited (sym is)))
  report_lines None other (line.Statement t statement.ReportSubpools) bounds like x y f printed text is differs v e = absurd x
  report_lines (Some one) None (line.Statement t statement.ReportSubpools) bounds like x y f printed text is differs v e = absurd y
  report_lines old other (line.Statement t (statement.Request k)) bounds like x y f printed text is differs v e = absurd differs
  report_lines old other (line.Statement t (statement.Where name)) bounds like x y f printed text is differs v e = absurd differs
  report_lines old other (line.Statement t statement.ReportMap) bounds like x y f printed text is differs v e = absurd differs
  report_lines old other (line.Statement t (statement.Region below above fill residence)) bounds like x y f printed text is differs v e = absurd differs
  report_lines old other line.Nothing bounds like x y f printed text is differs v e = absurd differs

  -- the same answer in another shape
  pub shape_lines : (old other : Option JobValue) (said : Line) → Alike old other → Serves machine number old said events new → Serves machine number other said more mid → OpenIn said events → LineShowsSome said → (printed text : List ℕ) → printed ≡ printing events → DiffersInShape number said printed text → (v : List ℕ) → text ≡ printing more ++ v → ⊥
  shape_lines (Some one) (Some other) (line.Statement t (statement.Request k)) like x y f some printed text is differs v e = step_unlike number one other t (statement.Request k) events more new mid like x y f refl some v printed text is differs e
  shape_lines (Some one) (Some other) (line.Statement t (statement.Where name)) like x y f some printed text is differs v e = step_unlike number one other t (statement.Where name) events more new mid like x y f refl some v printed text is differs e
  shape_lines None other (line.Statement t (statement.Request k)) like x y f some printed text is differs v e = absurd x
  shape_lines None other (line.Statement t (statement.Where name)) like x y f some printed text is differs v e = absurd x
  shape_lines (Some one) None (line.Statement t (statement.Request k)) like x y f some printed text is differs v e = absurd y
  shape_lines (Some one) None (line.Statement t (statement.Where name)) like x y f some printed text is differs v e = absurd y
  shape_lines old other (line.Statement t statement.ReportSubpools) like x y f some printed text is differs v e = absurd differs
  shape_lines old other (line.Statement t statement.ReportMap) like x y f some printed text is differs v e = absurd differs
  shape_lines old other (line.Statement t (statement.Region below above fill residence)) like x y f some printed text is differs v e = absurd differs
  shape_lines old other line.Nothing like x y f some printed text is differs v e = absurd differs

  pub begins_lines : (old other : Option JobValue) (said : Line) → Alike old other → Serves machine number old said events new → Serves machine number other said more mid → OpenIn said events → LineShowsSome said → (v : List ℕ) → BeginsLine number said (printing more ++ v)
  begins_lines (Some one) (Some other) (line.Statement t (statement.Request k)) like x y f some v = step_begins number one other t (statement.Request k) events more new mid like x y f some v
  begins_lines (Some one) (Some other) (line.Statement t (statement.Where name)) like x y f some v = step_begins number one other t (statement.Where name) events more new mid like x y f some v
  begins_lines (Some one) (Some other) (line.Statement t statement.ReportSubpools) like x y f some v = step_begins number one other t statement.ReportSubpools events more new mid like x y f some v
  begins_lines (Some one) (Some other) (line.Statement t statement.ReportMap) like x y f some v = tt
  begins_lines None other (line.Statement t (statement.Request k)) like x y f some v = absurd x
  begins_lines None other (line.Statement t (statement.Where name)) like x y f some v = absurd x
  begins_lines None other (line.Statement t statement.ReportSubpools) like x y f some v = absurd x
  begins_lines None other (line.Statement t statement.ReportMap) like x y f some v = absurd x
  begins_lines (Some one) None (line.Statement t (statement.Request k)) like x y f some v = absurd y
  begins_lines (Some one) None (line.Statement t (statement.Where name)) like x y f some v = absurd y
  begins_lines (Some one) None (line.Statement t statement.ReportSubpools) like x y f some v = absurd y
  begins_lines (Some one) None (line.Statement t statement.ReportMap) like x y f some v = absurd y
  begins_lines old other line.Nothing like x y f some v = absurd f
  begins_lines old other (line.Statement t (statement.Region below above fill residence)) like x y f some v = absurd f

-- the line of a job at which places decide
undecided : (number : ℕ) (old new : Option JobValue) (bytes : List ℕ) (said : Line) (events : List Event) (text : List ℕ) → LineOf (is_first old) bytes said → Serves machine number old said events new → OpenIn said events → BeginsLine number said text → IsUndecidedAt number old bytes text
undecided number (Some one) new bytes (line.Statement t (statement.Request k)) events text is x f b = (t, statement.Request k, x.0, x.1, is, x.2, f number x.0 x.3, b)
undecided number (Some one) new bytes (line.Statement t (statement.Where name)) events text is x f b = (t, statement.Where name, x.0, x.1, is, x.2, f number x.0 x.3, b)
undecided number (Some one) new bytes (line.Statement t statement.ReportSubpools) events text is x f b = (t, statement.ReportSubpools, x.0, x.1, is, x.2, f number x.0 x.3, b)
undecided number (Some one) new bytes (line.Statement t statement.ReportMap) events text is x f b = (t, statement.ReportMap, x.0, x.1, is, x.2, f number x.0 x.3, b)
undecided number None new bytes (line.Statement t (statement.Request k)) events text is x f b = absurd x
undecided number None new bytes (line.Statement t (statement.Where name)) events text is x f b = absurd x
undecided number None new bytes (line.Statement t statement.ReportSubpools) events text is x f b = absurd x
undecided number None new bytes (line.Statement t statement.ReportMap) events text is x f b = absurd x
undecided number old new bytes line.Nothing events text is x f b = absurd f
undecided number old new bytes (line.Statement t (statement.Region below above fill residence)) events text is x f b = absurd f

-- ---- a line of a walk

-- a run that prints a text from a line on serves it, if the line has no fault
abbrev pub Theirs : ℕ → Option JobValue → Line → List (List ℕ) → List ℕ → Outcome → Type 0
Theirs number step said more left outcome =
    (mid : Option JobValue) × (first : List Event) × (rest : List ℕ) × Serves machine number step said first mid × (left ≡ printing first ++ rest) × MayPrint (number + 1) mid more rest outcome

module _ (P : Condition) (w w' : WalkValue) (l : List ℕ) (tl : LineEvent) (is : ServesAsUnder P w l tl w') (printed : List ℕ) (same : printed ≡ printing (events_of_line w.number w' tl)) (said : Line) (said_is : LineOf (is_first w.step) l said) (some : LineShowsSome said) (next : w'.number ≡ w.number + 1) where
  whole : (fault : Fault) → tl ≡ tells.Faulted fault → ⊥
  whole fault e = one_reading.not_both (is_first w.step) l said fault said_is (subst (λ t. ServesAsUnder P w l t w') e is).0

  mine : Serves machine w.number w.step said (events_of_line w.number w' tl) w'.step
  mine = let s = one_leads P w w' l tl printed is same whole in subst (λ k. Serves machine w.number w.step k (events_of_line w.number w' tl) w'.step) (one_reading.one_line (is_first w.step) l s.0 said s.1 said_is) s.2

  theirs : (step : Option JobValue) (more : List (List ℕ)) (left : List ℕ) (outcome : Outcome) → Alike w.step step → MayPrint w.number step (l ∷ more) left outcome → Theirs w.number step said more left outcome
  theirs step more left outcome like may = at (may_serve w.number step l more left outcome may) where
    first : is_first w.step ≡ is_first step
    first = first_alike w.step step like

    at : ((events : List Event) × Faults w.number (is_first step) l events × (left ≡ printing events)) ⊎ Serving w.number step l more left outcome → Theirs w.number step said more left outcome
    at (inl x) = absurd (one_reading.not_both (is_first step) l said x.1.0 (subst (λ b. LineOf b l said) first said_is) x.1.1)
    at (inr x) =
        (x.0, x.1, x.2, subst (λ k. Serves machine w.number step k x.1 x.0) (one_reading.one_line (is_first step) l x.3.0 said x.3.1 (subst (λ b. LineOf b l said) first said_is)) x.3.2, x.4, x.5)

  -- a line whose text shows where each run is
  agrees : (left : List ℕ) (n : ℕ) → n ≡ length printed → left ≡ printed ++ drop (length printed) left
      → ((step mid : Option JobValue) (first : List Event) (rest : List ℕ) (more : List (List ℕ)) (outcome : Outcome) → w.number + length more < 2 ^ 32 → MayPrint (w.number + 1) mid more rest outcome → Alike w.step step → Serves machine w.number step said first mid → printing (events_of_line w.number w' tl) ++ drop (length printed) left ≡ printing first ++ rest → Alike w'.step mid × (drop (length printed) left ≡ rest))
      → IsVerdict w l left w' (verdict.Agrees n)
  agrees left n is_n front f = (printed, is_n, (front, on), line_served P w w' l tl printed is same whole next) where
    on : (step : Option JobValue) (more : List (List ℕ)) (outcome : Outcome) → w.number + length more < 2 ^ 32 → Alike w.step step → MayPrint w.number step (l ∷ more) left outcome → (later : Option JobValue) × Alike w'.step later × MayPrint w'.number later more (drop (length printed) left) outcome
    on step more outcome few like may =
        let y = theirs step more left outcome like may in
        let r = f step y.0 y.1 y.2 more outcome few y.5 like y.3 (ap (λ p. p ++ drop (length printed) left) (sym same) ∙ sym front ∙ y.4) in
        (y.0, r.0, subst (λ n. MayPrint n y.0 more (drop (length printed) left) outcome) (sym next) (subst (λ rest. MayPrint (w.number + 1) y.0 more rest outcome) (sym r.1) y.5))

  pub certain_verdict : SettledIn said (events_of_line w.number w' tl) → (left : List ℕ) (n : ℕ) → n ≡ length printed → (passes : Bool) → (passes ≡ true → left ≡ printed ++ drop (length printed) left) → ((rest : List ℕ) → left ≡ printed ++ rest → passes ≡ true)
      → IsVerdict w l left w' (if passes then verdict.Agrees n else verdict.Excluded)
  certain_verdict f left n is_n true begun never = agrees left n is_n (begun refl) (λ step mid first rest more outcome few may like y e.
      let r = certain w.number (events_of_line w.number w' tl) first w'.step mid w.step step said like mine y f in
      (r.1, append_cancel_left (printing first) _ _ (ap (λ ev. printing ev ++ drop (length printed) left) (sym r.0) ∙ e)))
  certain_verdict f left n is_n false begun never = λ step more outcome like may.
      let y = theirs step more left outcome like may in
      let r = certain w.number (events_of_line w.number w' tl) y.1 w'.step y.0 w.step step said like mine y.3 f in
      false_true (never y.2 (y.4 ∙ ap (λ ev. printing ev ++ y.2) (sym r.0) ∙ ap (λ p. p ++ y.2) (sym same)))

  pub shown_verdict : InBounds w.step → OpenIn said (events_of_line w.number w' tl) → is_shown said ≡ true → (left : List ℕ) (n : ℕ) → n ≡ length printed → left ≡ printed ++ drop (length printed) left → IsVerdict w l left w' (verdict.Agrees n)
  shown_verdict bounds f is_s left n is_n front = agrees left n is_n front (λ step mid first rest more outcome few may like y e.
      shown_lines w.number (events_of_line w.number w' tl) first w'.step mid w.step step said bounds like mine y f is_s some (drop (length printed) left) rest e)

  pub map_verdict : OpenIn said (events_of_line w.number w' tl) → (left : List ℕ) (n : ℕ) → n ≡ length printed → left ≡ printed ++ drop (length printed) left → EndsMap w.number said (drop (length printed) left) → IsVerdict w l left w' (verdict.Agrees n)
  map_verdict f left n is_n front ends = agrees left n is_n front (λ step mid first rest more outcome few may like y e.
      let starts = subst (Starts (w.number + 1) (w.number + 1 + length more)) (sym may.2) (walk_starts outcome (w.number + 1 + length more) (w.number + 1) mid more may.0 (omega arith) may.1) in
      map_lines w.number (events_of_line w.number w' tl) first w'.step mid w.step step said like mine y f (drop (length printed) left) rest ends (starts_word _ _ rest starts) (λ t. starts_past _ _ rest w.number t starts (omega arith) (omega (arith, few)) (omega (arith, few))) e)

  pub report_verdict : InBounds w.step → OpenIn said (events_of_line w.number w' tl) → (left : List ℕ) → DiffersInReport said printed left → IsVerdict w l left w' verdict.Excluded
  report_verdict bounds f left differs = λ step more outcome like may.
      let y = theirs step more left outcome like may in
      report_lines w.number (events_of_line w.number w' tl) y.1 w'.step y.0 w.step step said bounds like mine y.3 f printed left same differs y.2 y.4

  pub shape_verdict : OpenIn said (events_of_line w.number w' tl) → (left : List ℕ) → DiffersInShape w.number said printed left → IsVerdict w l left w' verdict.Excluded
  shape_verdict f left differs = λ step more outcome like may.
      let y = theirs step more left outcome like may in
      shape_lines w.number (events_of_line w.number w' tl) y.1 w'.step y.0 w.step step said like mine y.3 f some printed left same differs y.2 y.4

  pub open_verdict : OpenIn said (events_of_line w.number w' tl) → (left : List ℕ) (b : Bool) → IsBegunLine w.number said left b → IsVerdict w l left w' (if b then verdict.Undecided else verdict.Excluded)
  open_verdict f left true begun = undecided w.number w.step w'.step l said (events_of_line w.number w' tl) left said_is mine f (begun_line said begun) where
    begun_line : (said : Line) → IsBegunLine w.number said left true → BeginsLine w.number said left
    begun_line line.Nothing b = tt
    begun_line (line.Statement t s) b = b.0 refl
  open_verdict f left false begun = λ step more outcome like may.
      let y = theirs step more left outcome like may in
      none said f begun (subst (BeginsLine w.number said) (sym y.4) (begins_lines w.number (events_of_line w.number w' tl) y.1 w'.step y.0 w.step step said like mine y.3 f some y.2)) where
        none : (said : Line) → OpenIn said (events_of_line w.number w' tl) → IsBegunLine w.number said left false → BeginsLine w.number said left → ⊥
        none line.Nothing f b g = f
        none (line.Statement t s) f b g = false_true (b.1 g)

  -- what the code tells of it
  pub settled_in : (b : Bool) → ((st : State) (fallen : List Name) → b ≡ is_certain said (answer_in st fallen tl)) → b ≡ true → SettledIn said (events_of_line w.number w' tl)
  settled_in b f e = at w.step said mine f where
    at : (old : Option JobValue) (said : Line) → Serves machine w.number old said (events_of_line w.number w' tl) w'.step → ((st : State) (fallen : List Name) → b ≡ is_certain said (answer_in st fallen tl)) → SettledIn said (events_of_line w.number w' tl)
    at old line.Nothing x f = tt
    at old (line.Statement t (statement.Region below above fill residence)) x f = tt
    at None (line.Statement t (statement.Request k)) x f = absurd x
    at None (line.Statement t (statement.Where name)) x f = absurd x
    at None (line.Statement t statement.ReportSubpools) x f = absurd x
    at None (line.Statement t statement.ReportMap) x f = absurd x
    at (Some job) (line.Statement t (statement.Request k)) x f = λ n a g. ap (is_settled (statement.Request k)) (sym (ap answer_at (sym x.3 ∙ g))) ∙ settled_answer w w' tl job t (statement.Request k) x b (is_certain (line.Statement t (statement.Request k))) (λ x. refl) f ∙ e
    at (Some job) (line.Statement t (statement.Where name)) x f = λ n a g. ap (is_settled (statement.Where name)) (sym (ap answer_at (sym x.3 ∙ g))) ∙ settled_answer w w' tl job t (statement.Where name) x b (is_certain (line.Statement t (statement.Where name))) (λ x. refl) f ∙ e
    at (Some job) (line.Statement t statement.ReportSubpools) x f = λ n a g. ap (is_settled statement.ReportSubpools) (sym (ap answer_at (sym x.3 ∙ g))) ∙ settled_answer w w' tl job t statement.ReportSubpools x b (is_certain (line.Statement t statement.ReportSubpools)) (λ x. refl) f ∙ e
    at (Some job) (line.Statement t statement.ReportMap) x f = λ n a g. ap (is_settled statement.ReportMap) (sym (ap answer_at (sym x.3 ∙ g))) ∙ settled_answer w w' tl job t statement.ReportMap x b (is_certain (line.Statement t statement.ReportMap)) (λ x. refl) f ∙ e

  pub open_in : (b : Bool) → ((st : State) (fallen : List Name) → b ≡ is_certain said (answer_in st fallen tl)) → b ≡ false → OpenIn said (events_of_line w.number w' tl)
  open_in b f e = at w.step said mine f where
    at : (old : Option JobValue) (said : Line) → Serves machine w.number old said (events_of_line w.number w' tl) w'.step → ((st : State) (fallen : List Name) → b ≡ is_certain said (answer_in st fallen tl)) → OpenIn said (events_of_line w.number w' tl)
    at old line.Nothing x f = true_false (sym (f (one_page []) []) ∙ e)
    at old (line.Statement t (statement.Region below above fill residence)) x f = true_false (sym (f (one_page []) []) ∙ e)
    at None (line.Statement t (statement.Request k)) x f = absurd x
    at None (line.Statement t (statement.Where name)) x f = absurd x
    at None (line.Statement t statement.ReportSubpools) x f = absurd x
    at None (line.Statement t statement.ReportMap) x f = absurd x
    at (Some job) (line.Statement t (statement.Request k)) x f = λ n a g. ap (is_settled (statement.Request k)) (sym (ap answer_at (sym x.3 ∙ g))) ∙ settled_answer w w' tl job t (statement.Request k) x b (is_certain (line.Statement t (statement.Request k))) (λ x. refl) f ∙ e
    at (Some job) (line.Statement t (statement.Where name)) x f = λ n a g. ap (is_settled (statement.Where name)) (sym (ap answer_at (sym x.3 ∙ g))) ∙ settled_answer w w' tl job t (statement.Where name) x b (is_certain (line.Statement t (statement.Where name))) (λ x. refl) f ∙ e
    at (Some job) (line.Statement t statement.ReportSubpools) x f = λ n a g. ap (is_settled statement.ReportSubpools) (sym (ap answer_at (sym x.3 ∙ g))) ∙ settled_answer w w' tl job t statement.ReportSubpools x b (is_certain (line.Statement t statement.ReportSubpools)) (λ x. refl) f ∙ e
    at (Some job) (line.Statement t statement.ReportMap) x f = λ n a g. ap (is_settled statement.ReportMap) (sym (ap answer_at (sym x.3 ∙ g))) ∙ settled_answer w w' tl job t statement.ReportMap x b (is_certain (line.Statement t statement.ReportMap)) (λ x. refl) f ∙ e

-- a line with a fault
module _ (P : Condition) (w w' : WalkValue) (l : List ℕ) (tl : LineEvent) (is : ServesAsUnder P w l tl w') (printed : List ℕ) (same : printed ≡ printing (events_of_line w.number w' tl)) (left : List ℕ) where
  -- the event of the line is its fault
  abbrev Faulty : Type 0
  Faulty = (fault : Fault) × (tl ≡ tells.Faulted fault) × FaultOf (is_first w.step) l fault

  faulty : (fault : Fault) → FaultOf (is_first w.step) l fault → Faulty
  faulty fault f = at (event_cases P w l tl w' is) where
    at : HasEvent P w l tl w' → Faulty
    at (inl x) = x
    at (inr x) = absurd (one_reading.not_both (is_first w.step) l x.1.0 fault x.1.1 f)

  one_more : Faulty → (step : Option JobValue) (more : List (List ℕ)) (outcome : Outcome) → Alike w.step step → MayPrint w.number step (l ∷ more) left outcome → left ≡ printed
  one_more x step more outcome like may = at (may_serve w.number step l more left outcome may) where
    first : is_first step ≡ is_first w.step
    first = sym (first_alike w.step step like)

    at : ((events : List Event) × Faults w.number (is_first step) l events × (left ≡ printing events)) ⊎ Serving w.number step l more left outcome → left ≡ printed
    at (inl y) =
        let fault = one_reading.one_fault (is_first w.step) l y.1.0 x.0 (subst (λ b. FaultOf b l y.1.0) first y.1.1) x.2 in
        y.2 ∙ ap printing (y.1.2 ∙ ap (λ fault. Faulted w.number fault ∷ []) fault) ∙ ap (λ t. printing (events_of_line w.number w' t)) (sym x.1) ∙ sym same
    at (inr y) = absurd (one_reading.not_both (is_first step) l y.3.0 x.0 y.3.1 (subst (λ b. FaultOf b l x.0) (sym first) x.2))

  pub fault_verdict : (fault : Fault) → FaultOf (is_first w.step) l fault → (b : Bool) → Tests b (left ≡ printed) → IsVerdict w l left w' (if b then verdict.Ends else verdict.Excluded)
  fault_verdict fault f true test = let x = faulty fault f in subst (λ text. IsServed (l ∷ []) w text false w') (sym (test.0 refl)) (fault_served P w w' l tl printed is same x.0 x.1)
  fault_verdict fault f false test = λ step more outcome like may. false_true (test.1 (one_more (faulty fault f) step more outcome like may))

-- two tests
pub both_true : (a b : Bool) → (a && b) ≡ true → (a ≡ true) × (b ≡ true)
both_true true true e = (refl, refl)
both_true true false e = (refl, e)
both_true false b e = absurd (false_true e)
