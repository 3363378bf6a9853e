-- A statement is served, and what a line tells.
use Rattle.std.proofs.Common.{◌≡◌, ℕ, List, [], ◌∷◌, ◌++◌, append-nil, Option, Some, None, Bool, true, false, Result, Ok, Err, inl, inr, ◌⊎◌, refl, sym, ap, ◌∙◌, subst}
use Rattle.std.specs.Prelude.{◌||◌, not, OnErr, IfOk, MatchResult, is_some}
use Rattle.std.specs.Io.KnownBytes.{Keeps}
use Rattle.std.proofs.KnownBytes.{Appends-trans}
use Rattle.mvs_job.specs.Serving.{MayHappen}
use Rattle.mvs_model.specs.declared.name.Name.{Name}
use Rattle.mvs_model.specs.declared.line.Line.{Line}
use Rattle.mvs_model.specs.declared.line.Line.TheVariants as line
use Rattle.mvs_model.specs.declared.line.Fault.{Fault}
use Rattle.mvs_model.specs.declared.line.Statement.{Statement}
use Rattle.mvs_model.specs.declared.line.Statement.TheVariants as says
use Rattle.mvs_model.specs.declared.line.SourceRequest.{SourceRequest}
use Rattle.mvs_model.specs.declared.request.Request.{Request}
use Rattle.mvs_model.specs.declared.request.Reply.{Reply}
use Rattle.mvs_model.specs.declared.answer.Answer.{Answer as Short}
use Rattle.mvs_model.specs.Answers.{Answer, Region, Event, AnswerTo}
use Rattle.mvs_model.specs.declared.error.OutOfMemory.{OutOfMemory}
use Rattle.mvs_model.specs.Card.{CardValue}
use Rattle.mvs_model.specs.Job.{JobValue, job_at}
use Rattle.mvs_model.specs.FullAnswers.{full_answer, ended_with_in}
use Rattle.mvs_model.specs.Lines.{card_of}
use Rattle.mvs_model.specs.Memory.{TakesMemory, StopsForMemory}
use Rattle.mvs_model.specs.Reading.{LineOf, IsReading}
use Rattle.mvs_model.specs.Replies.{is_abend, answer_of}
use Rattle.mvs_model.specs.Resolving.{resolved, all_set, names_set, places_in}
use Rattle.mvs_model.specs.Runs.{Condition, Any, Asks, Does, Makes, job_machine, machine}
use Rattle.mvs_model.specs.Steps.{Step}
use Rattle.mvs_model.specs.Texts.{text_of, printing}
use Rattle.mvs_model.specs.Walk.{Serves, ending, has_abended, is_first}
use Rattle.mvs_model.specs.Watched.{WatchedValue}
use Rattle.mvs_laws.proofs.Determined.{line_other}
use Rattle.mvs_laws.proofs.Going.{printed_both}
use Rattle.job_script.specs.LineMeaning.{filled}
use Rattle.line_text.specs.Writing.{Prints, AppendsFront}
use Rattle.line_text.proofs.Appending.{front_longer, front_more}
use Rattle.mvs_job.specs.declared.walk.OutOfMemoryAt.{OutOfMemoryAt}
use Rattle.mvs_job.specs.declared.walk.LineEvent.{LineEvent}
use Rattle.mvs_job.specs.declared.walk.LineEvent.TheVariants as line_event
use Rattle.mvs_job.specs.LineEvents.{IsReadIn, WalkValue, ServesAs, ServesAsUnder, IsAvailableIn, KeepsReply, KeepsReplyOf, region_card, end_of_step, ended, events_of_line, full_answer_in}

-- A request that is made, and whose names are set.
pub made_by : (P : Condition) (old : JobValue) (t : Name) (a : SourceRequest) (r : Request) (reply : Reply) (new : JobValue) → Step old.state t r reply new.state → P old.state t r reply new.state
    → new.names ≡ all_set old.names (names_set a) (places_in reply) → new.abended ≡ (old.abended || is_abend reply) → new.former ≡ old.former → Makes P old t a r (answer_of old.state a r reply) new
made_by P old t a r reply new step meets names abended former = record { reply = reply; step = step; meets = meets; names = names; abended = abended; former = former; answer_is = refl }

pub made : (P : Condition) (old : JobValue) (t : Name) (a : SourceRequest) (r : Request) (reply : Reply) (new : JobValue) → resolved old.names a ≡ Some r → Step old.state t r reply new.state → P old.state t r reply new.state
    → new.names ≡ all_set old.names (names_set a) (places_in reply) → new.abended ≡ (old.abended || is_abend reply) → new.former ≡ old.former
    → Asks P old t a (resolved old.names a) (answer_of old.state a r reply) new
made P old t a r reply new is step meets names abended former =
    subst (λ o. Asks P old t a o (answer_of old.state a r reply) new) (sym is) (made_by P old t a r reply new step meets names abended former)

-- whether no statement came before
pub first_is : (o : Option JobValue) (b : Bool) → is_some o ≡ not b → b ≡ is_first o
first_is None true e = refl
first_is None false e = absurd (let f : false ≡ true = e in cc)
first_is (Some job) true e = absurd (let f : true ≡ false = e in cc)
first_is (Some job) false e = refl

-- What a line says, as it was read.
pub said_so : (first before : Bool) (bytes : List ℕ) (read : Result Line Fault) (l : Line) → first ≡ before → IsReading first bytes read → read ≡ Ok l → LineOf before bytes l
said_so first before bytes read l same reading is = subst (λ first. LineOf first bytes l) same (subst (IsReading first bytes) is reading)

module _ (P : Condition) (old new : WalkValue) (bytes : List ℕ) (first : Bool) (read : Result Line Fault) (same : first ≡ is_first old.step) (reading : IsReading first bytes read) where
  -- a statement of the step
  step_served : (t : Name) (s : Statement) (step later : JobValue) (answer : Answer) → region_card t s ≡ None → Does P step t s answer later
      → Serves (job_machine P) old.number (Some step) (line.Statement t s) (AnswerTo old.number t answer ∷ []) (Some later)
  step_served t (says.Region below above fill residence) step later answer is does = absurd (let f : Some (card_of t below above fill residence) ≡ None = is in cc)
  step_served t (says.Request a) step later answer is does = (answer, later, does, refl, refl)
  step_served t (says.Where name) step later answer is does = (answer, later, does, refl, refl)
  step_served t says.ReportSubpools step later answer is does = (answer, later, does, refl, refl)
  step_served t says.ReportMap step later answer is does = (answer, later, does, refl, refl)

  pub event_answered : (l : Line) (t : Name) (s : Statement) (step later : JobValue) (a : Short) → read ≡ Ok l → l ≡ line.Statement t s → region_card t s ≡ None → old.step ≡ Some step → new.step ≡ Some later
      → Does P step t s (full_answer later.state (ended_with_in new.reply) t a) later → ServesAsUnder P old bytes (line_event.Answered t a) new
  event_answered l t s step later a is l_is of_step e f does = (
    line.Statement t s,
    said_so first (is_first old.step) bytes read (line.Statement t s) same reading (is ∙ ap (λ x. Ok x) l_is),
    subst (λ o. Serves (job_machine P) old.number old.step (line.Statement t s) (AnswerTo old.number t (full_answer_in o (ended_with_in new.reply) t a) ∷ []) o) (sym f)
        (subst (λ o. Serves (job_machine P) old.number o (line.Statement t s) (AnswerTo old.number t (full_answer later.state (ended_with_in new.reply) t a) ∷ []) (Some later)) (sym e) (step_served t s step later (full_answer later.state (ended_with_in new.reply) t a) of_step does)),
  )

  -- a REGION statement begins a step
  some_card : (x y : CardValue) → Some x ≡ Some y → x ≡ y
  some_card x y e = cc

  same_end : (o : Option JobValue) → ended (end_of_step o) ≡ ending (job_machine P) o
  same_end None = refl
  same_end (Some job) = refl

  same_former : (o : Option JobValue) → has_abended machine o ≡ has_abended (job_machine P) o
  same_former None = refl
  same_former (Some job) = refl

  region_served : (t : Name) (s : Statement) (card : CardValue) (end : Option Bool) → region_card t s ≡ Some card → end ≡ end_of_step old.step → new.step ≡ Some (job_at card (has_abended machine old.step))
      → Serves (job_machine P) old.number old.step (line.Statement t s) (ended end ++ AnswerTo old.number card.name (Region card) ∷ []) new.step
  region_served t (says.Region below above fill residence) card end is ends began =
      let same = some_card (card_of t below above fill residence) card is in (
        ap (λ (c : CardValue). ended end ++ AnswerTo old.number c.name (Region c) ∷ []) (sym same) ∙ ap (λ x. x ++ AnswerTo old.number t (Region (card_of t below above fill residence)) ∷ []) (ap ended ends ∙ same_end old.step),
        began ∙ ap (λ c. Some (job_at c (has_abended machine old.step))) (sym same) ∙ ap (λ b. Some (job_at (card_of t below above fill residence) b)) (same_former old.step),
      )
  region_served t (says.Request a) card end is ends began = absurd (let f : None ≡ Some card = is in cc)
  region_served t (says.Where name) card end is ends began = absurd (let f : None ≡ Some card = is in cc)
  region_served t says.ReportSubpools card end is ends began = absurd (let f : None ≡ Some card = is in cc)
  region_served t says.ReportMap card end is ends began = absurd (let f : None ≡ Some card = is in cc)

  pub event_began : (l : Line) (t : Name) (s : Statement) (card : CardValue) (end : Option Bool) → read ≡ Ok l → l ≡ line.Statement t s → region_card t s ≡ Some card → end ≡ end_of_step old.step → new.step ≡ Some (job_at card (has_abended machine old.step))
      → ServesAsUnder P old bytes (line_event.StepBegan end card) new
  event_began l t s card end is l_is of_card ends began = (line.Statement t s, said_so first (is_first old.step) bytes read (line.Statement t s) same reading (is ∙ ap (λ x. Ok x) l_is), region_served t s card end of_card ends began)

  region_stops : (t : Name) (s : Statement) (card : CardValue) (end : Option Bool) → region_card t s ≡ Some card → end ≡ end_of_step old.step → TakesMemory old.step (line.Statement t s) (ended end)
  region_stops t (says.Region below above fill residence) card end is ends = ap ended ends ∙ other_end old.step where
    other_end : (o : Option JobValue) → ended (end_of_step o) ≡ ending machine o
    other_end None = refl
    other_end (Some job) = refl
  region_stops t (says.Request a) card end is ends = absurd (let f : None ≡ Some card = is in cc)
  region_stops t (says.Where name) card end is ends = absurd (let f : None ≡ Some card = is in cc)
  region_stops t says.ReportSubpools card end is ends = absurd (let f : None ≡ Some card = is in cc)
  region_stops t says.ReportMap card end is ends = absurd (let f : None ≡ Some card = is in cc)

  pub stops_at_region : (l : Line) (t : Name) (s : Statement) (card : CardValue) (end : Option Bool) → read ≡ Ok l → l ≡ line.Statement t s → region_card t s ≡ Some card → end ≡ end_of_step old.step → StopsForMemory old.number old.step (bytes ∷ []) (ended end)
  stops_at_region l t s card end is l_is of_card ends = (line.Statement t s, said_so first (is_first old.step) bytes read (line.Statement t s) same reading (is ∙ ap (λ x. Ok x) l_is), region_stops t s card end of_card ends)

  pub stops_at_request : (l : Line) (t : Name) (s : Statement) → read ≡ Ok l → l ≡ line.Statement t s → TakesMemory old.step (line.Statement t s) [] → StopsForMemory old.number old.step (bytes ∷ []) (ended None)
  stops_at_request l t s is l_is takes = (line.Statement t s, said_so first (is_first old.step) bytes read (line.Statement t s) same reading (is ∙ ap (λ x. Ok x) l_is), takes)

-- what a line tells by a step that meets a condition it tells by a step
pub serves_unconditionally : (P : Condition) (old new : WalkValue) (bytes : List ℕ) (t : LineEvent) → ServesAsUnder P old bytes t new → ServesAs old bytes t new
serves_unconditionally P old new bytes (line_event.Faulted fault) h = h
serves_unconditionally P old new bytes line_event.Nothing h = (h.0, h.1, line_other (λ _. P) (λ _. Any) old.number (λ _ _ _ _ _ _. tt) old.step h.0 _ new.step h.2)
serves_unconditionally P old new bytes (line_event.StepBegan end card) h = (h.0, h.1, line_other (λ _. P) (λ _. Any) old.number (λ _ _ _ _ _ _. tt) old.step h.0 _ new.step h.2)
serves_unconditionally P old new bytes (line_event.Answered t a) h = (h.0, h.1, line_other (λ _. P) (λ _. Any) old.number (λ _ _ _ _ _ _. tt) old.step h.0 _ new.step h.2)

-- ---- a line that is parsed first

-- what is read of it
pub read_in : (step : Option JobValue) (bytes : List ℕ) (l : Line) (parsed : Result (Unit {0}) Fault) → IsReading (is_first step) bytes (filled l parsed) → OnErr parsed (l ≡ line.Nothing) → IsReadIn step bytes l
read_in step bytes l (Ok x) reading none = inl reading
read_in step bytes l (Err fault) reading none = inr (fault, reading, none)

module _ (P : Condition) (old mid new : WalkValue) (bytes : List ℕ) (rest : mid ≡ record old { read = mid.read }) where
  -- what it leads to does not depend on what was parsed before
  before_read : (t : LineEvent) → ServesAsUnder P (record old { read = mid.read }) bytes t new → ServesAsUnder P old bytes t new
  before_read (line_event.Faulted fault) h = h
  before_read line_event.Nothing h = h
  before_read (line_event.StepBegan end card) h = h
  before_read (line_event.Answered t a) h = h

  pub serves_before : (t : LineEvent) → ServesAsUnder P mid bytes t new → ServesAsUnder P old bytes t new
  serves_before t h = before_read t (subst (λ m. ServesAsUnder P m bytes t new) rest h)

  pub stops_before : (events : List Event) → StopsForMemory mid.number mid.step (bytes ∷ []) events → StopsForMemory old.number old.step (bytes ∷ []) events
  stops_before events h = subst (λ m. StopsForMemory m.number m.step (bytes ∷ []) events) rest h

  pub each_before : (r : Result LineEvent OutOfMemoryAt) → MatchResult r (λ t. ServesAsUnder P mid bytes t new) (λ s. StopsForMemory mid.number mid.step (bytes ∷ []) (ended s.ended))
      → MatchResult r (λ t. ServesAsUnder P old bytes t new) (λ s. StopsForMemory old.number old.step (bytes ∷ []) (ended s.ended))
  each_before (Ok t) h = serves_before t h
  each_before (Err s) h = stops_before (ended s.ended) h

  reply_read : (t : LineEvent) → KeepsReplyOf (record old { read = mid.read }) bytes t new → KeepsReplyOf old bytes t new
  reply_read (line_event.Faulted fault) h = h
  reply_read line_event.Nothing h = h
  reply_read (line_event.StepBegan end card) h = h
  reply_read (line_event.Answered t a) h = h

  pub reply_before : (r : Result LineEvent OutOfMemoryAt) → IfOk r (λ t. KeepsReplyOf mid bytes t new) → IfOk r (λ t. KeepsReplyOf old bytes t new)
  reply_before (Ok t) h = reply_read t (subst (λ m. KeepsReplyOf m bytes t new) rest h)
  reply_before (Err s) h = tt

pub each_serves : (P : Condition) (old new : WalkValue) (bytes : List ℕ) (r : Result LineEvent OutOfMemoryAt) (Q : OutOfMemoryAt → Type 0) → MatchResult r (λ t. ServesAsUnder P old bytes t new) Q → MatchResult r (λ t. ServesAs old bytes t new) Q
each_serves P old new bytes (Ok t) Q h = serves_unconditionally P old new bytes t h
each_serves P old new bytes (Err e) Q h = h

-- what a line that was served or has a fault may tell
pub line_tells : (old new : WalkValue) (bytes : List ℕ) (t : LineEvent) → ServesAs old bytes t new → MayHappen old bytes (events_of_line old.number new t)
line_tells old new bytes (line_event.Faulted fault) h = inr (fault, h.0, refl)
line_tells old new bytes line_event.Nothing h = inl (new.step, h)
line_tells old new bytes (line_event.StepBegan end card) h = inl (new.step, h)
line_tells old new bytes (line_event.Answered t a) h = inl (new.step, h)

pub nothing_kept : (a b : Option (List ℕ)) → AppendsFront a b [] → Keeps a b
nothing_kept None b f = tt
nothing_kept (Some xs) None f = absurd f.3
nothing_kept (Some xs) (Some ys) f = f.3 ∙ ap (λ x. xs ++ x) (none f.0 f.1 f.2) ∙ append-nil xs where
  none : (front rest : List ℕ) → [] ≡ front ++ rest → front ≡ []
  none [] rest e = refl
  none (b ∷ front) rest e = absurd (let f : [] ≡ b ∷ (front ++ rest) = e in cc)

-- a call that stops at a write while it prints the end of a step, for want of memory
pub stopped_front : (w : WalkValue) (bytes : List ℕ) (events : List Event) (a b : Option (List ℕ)) → StopsForMemory w.number w.step (bytes ∷ []) events → AppendsFront a b (printing events)
    → Keeps a b ⊎ ((all : List Event) × MayHappen w bytes all × AppendsFront a b (printing all))
stopped_front w bytes events a b h f = at w.step h.0 h.1 h.2 refl where
  kept : events ≡ [] → Keeps a b ⊎ ((all : List Event) × MayHappen w bytes all × AppendsFront a b (printing all))
  kept e = inl (nothing_kept a b (subst (λ x. AppendsFront a b (printing x)) e f))

  at : (o : Option JobValue) (l : Line) → LineOf (is_first o) bytes l → TakesMemory o l events → o ≡ w.step → Keeps a b ⊎ ((all : List Event) × MayHappen w bytes all × AppendsFront a b (printing all))
  at o (line.Statement t (says.Region below above fill residence)) is e same =
      let card = card_of t below above fill residence in
      let more = AnswerTo w.number t (Region card) ∷ [] in
      let tells : MayHappen w bytes (ending machine o ++ more) = subst (λ o. MayHappen w bytes (ending machine o ++ more)) (sym same) (inl (_, (line.Statement t (says.Region below above fill residence), subst (λ o. LineOf (is_first o) bytes (line.Statement t (says.Region below above fill residence))) same is, (refl, refl)))) in
      inr (ending machine o ++ more, tells, subst (λ x. AppendsFront a b (printing (x ++ more))) e (rw (printed_both events more) (front_longer a b (printing events) (printing more) f)))
  at (Some job) (line.Statement t (says.Request r)) is h same = kept h.0
  at None line.Nothing is h same = absurd h
  at (Some job) line.Nothing is h same = absurd h
  at None (line.Statement t (says.Request r)) is h same = absurd h
  at None (line.Statement t (says.Where name)) is h same = absurd h
  at None (line.Statement t says.ReportSubpools) is h same = absurd h
  at None (line.Statement t says.ReportMap) is h same = absurd h
  at (Some job) (line.Statement t (says.Where name)) is h same = absurd h
  at (Some job) (line.Statement t says.ReportSubpools) is h same = absurd h
  at (Some job) (line.Statement t says.ReportMap) is h same = absurd h

-- what a step serves, where it is the one that runs
pub served_in_step : (P : Condition) (o : Option JobValue) (step later : JobValue) (t : Name) (s : Statement) (reply : Reply) (r : Result Short OutOfMemory) → o ≡ Some step
    → MatchResult r (λ answer. Does P step t s (full_answer later.state (ended_with_in reply) t answer) later) (λ _. TakesMemory (Some step) (line.Statement t s) [])
    → IfOk r (IsAvailableIn later.state)
    → MatchResult r (λ answer. (x : JobValue) × (y : JobValue) × (o ≡ Some x) × (◌≡◌ {A = Option JobValue} (Some later) (Some y)) × Does P x t s (full_answer y.state (ended_with_in reply) t answer) y × IsAvailableIn y.state answer) (λ _. TakesMemory o (line.Statement t s) [])
served_in_step P o step later t s reply (Ok answer) is does full_answer = (step, later, is, refl, does, full_answer)
served_in_step P o step later t s reply (Err e) is takes full_answer = subst (λ o. TakesMemory o (line.Statement t s) []) (sym is) takes

-- the reply that a step keeps, where it is the one that runs
pub kept_in_step : (o : Option JobValue) (step later : JobValue) (t : Name) (s : Statement) (before reply : Reply) (r : Result Short OutOfMemory) → o ≡ Some step → IfOk r (λ answer. KeepsReply step t s before (full_answer later.state (ended_with_in reply) t answer) reply later)
    → IfOk r (λ answer. (x : JobValue) × (y : JobValue) × (o ≡ Some x) × (◌≡◌ {A = Option JobValue} (Some later) (Some y)) × KeepsReply x t s before (full_answer y.state (ended_with_in reply) t answer) reply y)
kept_in_step o step later t s before reply (Ok answer) is kept = (step, later, is, refl, kept)
kept_in_step o step later t s before reply (Err e) is kept = tt

-- texts that are printed by two calls, one after the other
pub both_written : {W X Y E F : Type 0} (contents : W → Option (List ℕ)) (old mid new : WatchedValue W) (u : X) (result : Result Y F) (first second : List ℕ) → Prints {W = W} {X = X} {E = E} contents old mid (Ok u) first → Prints {W = W} {X = Y} {E = F} contents mid new result second
    → Prints {W = W} {X = Y} {E = F} contents old new result (first ++ second)
both_written contents old mid new u (Ok v) first second p q = record { bytes = Appends-trans (contents old.inner) (contents mid.inner) (contents new.inner) first second p.bytes q.bytes; ok = q.ok ∙ p.ok; err = tt }
both_written contents old mid new u (Err e) first second p q = record { bytes = front_more (contents old.inner) (contents mid.inner) (contents new.inner) first second p.bytes q.bytes; ok = tt; err = q.err }

-- what is printed for events by one call, and for one more by the next
pub then_printed : {W X Y E F : Type 0} (contents : W → Option (List ℕ)) (old mid new : WatchedValue W) (u : X) (result : Result Y F) (events : List Event) (e : Event) → Prints {W = W} {X = X} {E = E} contents old mid (Ok u) (printing events)
    → Prints {W = W} {X = Y} {E = F} contents mid new result (text_of e) → Prints {W = W} {X = Y} {E = F} contents old new result (printing (events ++ e ∷ []))
then_printed contents old mid new u result events e p q = rw (printed_both events (e ∷ []), append-nil (text_of e)) (both_written contents old mid new u result (printing events) (text_of e) p q)

-- what holds where a result is not Ok
pub err_of : {T E P : Type 0} (r : Result T E) → ((x : T) → r ≡ Ok x → ⊥) → OnErr r P → P
err_of (Ok x) other h = absurd (other x refl)
err_of (Err e) other h = h

-- a result that is no Err is Ok
pub ok_of : {E : Type 0} (r : Result (Unit {0}) E) → ((e : E) → r ≡ Err e → ⊥) → r ≡ Ok tt
ok_of (Ok x) other = refl
ok_of (Err e) other = absurd (other e refl)

-- what holds where memory was wanting
pub not_answered : (P : Condition) (o new : Option JobValue) (t : Name) (s : Statement) (reply : Reply) (r : Result Short OutOfMemory) → ((x : Short) → r ≡ Ok x → ⊥)
    → MatchResult r (λ answer. (x : JobValue) × (y : JobValue) × (o ≡ Some x) × (new ≡ Some y) × Does P x t s (full_answer y.state (ended_with_in reply) t answer) y × IsAvailableIn y.state answer) (λ _. TakesMemory o (line.Statement t s) [])
    → TakesMemory o (line.Statement t s) []
not_answered P o new t s reply (Ok x) other h = absurd (other x refl)
not_answered P o new t s reply (Err e) other h = h
