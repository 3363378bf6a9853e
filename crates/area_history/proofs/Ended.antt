-- What is left when the job step task ends was found before.
use Rattle.std.proofs.Common.{◌≡◌, ◌⊎◌, ℕ, inl, inr, List, [], ◌∷◌, ◌++◌, Option, Some, None, Bool, true, false, not, refl, sym, ap, subst, ◌∙◌}
use Rattle.std.specs.Prelude.{MatchOption, ◌&&◌}
use Rattle.std.specs.Bool.{MatchBool}
use Rattle.std.specs.FinMap.{get}
use Rattle.mvs_model.specs.declared.line.Line.{Line}
use Rattle.mvs_model.specs.declared.line.Line.TheVariants as line
use Rattle.mvs_model.specs.declared.line.SourceRequest.{SourceRequest}
use Rattle.mvs_model.specs.declared.line.Statement.{Statement}
use Rattle.mvs_model.specs.declared.line.Statement.TheVariants as says
use Rattle.mvs_model.specs.declared.line.Fault.{Fault}
use Rattle.mvs_model.specs.declared.name.Name.{Name}
use Rattle.mvs_model.specs.declared.request.Request.{Request}
use Rattle.mvs_model.specs.Answers.{Answer, Event, AnswerTo}
use Rattle.mvs_model.specs.Answers as answer
use Rattle.mvs_model.specs.Finite.{has}
use Rattle.mvs_model.specs.FullAnswers.{ended_with_in, full_answer}
use Rattle.mvs_model.specs.Job.{JobValue}
use Rattle.mvs_model.specs.Name.{same_name}
use Rattle.mvs_model.specs.Owners.{is_active}
use Rattle.mvs_model.specs.Place.{PlaceValue}
use Rattle.mvs_model.specs.Reading.{FaultOf, LineOf}
use Rattle.mvs_model.specs.Replies.{where_answer}
use Rattle.mvs_model.specs.Resolving.{resolved}
use Rattle.mvs_model.specs.Runs.{Any, Asks, Does, OnlyAnswers, machine}
use Rattle.mvs_model.specs.Walk.{Serves, is_first}
use Rattle.mvs_model.proofs.Reading.{one_reading}
use Rattle.mvs_model.proofs.Tests.{false_true, true_false}
use Rattle.mvs_job.specs.declared.walk.LineEvent.{LineEvent}
use Rattle.mvs_job.specs.declared.walk.LineEvent.TheVariants as events
use Rattle.mvs_job.specs.Consuming.{IsEntry}
use Rattle.mvs_job.specs.LineEvents.{IsReadIn, ServesAs, WalkValue, ended, events_of_line, full_answer_in}
use Rattle.mvs_job.specs.Observing.{Fails, Hearing, Observes, ObservesLine, Passes, is_end}
use Rattle.mvs_job.specs.Trace.{Entry}
use Rattle.mvs_job.proofs.AfterLines.{answered_does}
use Rattle.mvs_job.proofs.ExplainedLine.{before_it, entry_serves}
use Rattle.mvs_job.proofs.Observed.{is_return}
use Rattle.area_history.specs.declared.account.Account.{Account}
use Rattle.area_history.specs.Accounts.{IsObserved, IsSettled, Sees, may_end}
use Rattle.area_history.specs.Ledgers.{ends_task}

-- what an account keeps of a refusal
abbrev pub observed : Hearing Account
observed old job t request refusal left new = IsObserved old job t request refusal new

-- what was read of a line
read_is : (step : Option JobValue) (job : JobValue) (bytes : List ℕ) (read said : Line) → step ≡ Some job → IsReadIn step bytes read → LineOf false bytes said → read ≡ said
read_is step job bytes read said is reads of = at (subst (λ o. IsReadIn o bytes read) is reads) where
  at : IsReadIn (Some job) bytes read → read ≡ said
  at (inl h) = one_reading.one_line false bytes read said h of
  at (inr (fault, here, nothing)) = absurd (one_reading.not_both false bytes said fault of here)

module _ (job later : JobValue) (bytes : List ℕ) (read : Line) (reads : IsReadIn (Some job) bytes read) (t : Name) (mid after : Account) (sees : Sees mid (Some job) read) (y : Answer) (ends : is_end y ≡ true) (root : has (same_name t) mid.root ≡ true) where
  abbrev Settled : Type 0
  Settled = IsSettled after (Some job)

  never : (x : Answer) → y ≡ x → is_end x ≡ false → Settled
  never x e f = true_false (sym ends ∙ ap is_end e ∙ f)

  passes : (q : SourceRequest) (r : Request) → LineOf false bytes (line.Statement t (says.Request q)) → resolved job.names q ≡ Some r → Passes mid job t r y after → Settled
  passes q r of is h =
      let same = read_is (Some job) job bytes read (line.Statement t (says.Request q)) refl reads of in
      let returns = is_return job.names q (is ∙ ap (λ x. Some x) (h.3 ends)) in
      subst (λ (a : Account). IsSettled a (Some job)) (sym h.0) (sees (ap (may_end mid.root) same ∙ ap (λ x. may_end mid.root (line.Statement t (says.Request x))) returns ∙ root))

  asked : (q : SourceRequest) → LineOf false bytes (line.Statement t (says.Request q)) → (v : Option Request) → resolved job.names q ≡ v → Asks Any job t q v y later → MatchOption v (after ≡ mid) (λ r. Passes mid job t r y after ⊎ Fails observed mid job t r y after) → Settled
  asked q of None is does same = never answer.NoName does.0 refl
  asked q of (Some r) is does (inl h) = passes q r of is h
  asked q of (Some r) is does (inr (refusal, left, refuses, lacks, failed, abends, kept)) = let c = abends ends in kept.found c.0 c.1 root

  where_settled : (v : Option PlaceValue) → y ≡ where_answer v → Settled
  where_settled None e = never answer.NoName e refl
  where_settled (Some p) e = never (answer.At p.addr) e refl

  report_settled : (x : Answer) → is_end x ≡ false → MatchBool (not (is_active job.state.owners t)) (OnlyAnswers job answer.NotRun y later) (OnlyAnswers job x y later) → Settled
  report_settled x f does = at (is_active job.state.owners t) does where
    at : (b : Bool) → MatchBool (not b) (OnlyAnswers job answer.NotRun y later) (OnlyAnswers job x y later) → Settled
    at true d = never x d.0 f
    at false d = never answer.NotRun d.0 refl

  pub statement_settled : (s : Statement) → LineOf false bytes (line.Statement t s) → Does Any job t s y later → Observes observed mid job t s y after → Settled
  statement_settled (says.Request q) of does heard = at (is_active job.state.owners t) does heard where
    at : (b : Bool) → MatchBool (not b) (OnlyAnswers job answer.NotRun y later) (Asks Any job t q (resolved job.names q) y later)
        → MatchBool b (MatchOption (resolved job.names q) (after ≡ mid) (λ r. Passes mid job t r y after ⊎ Fails observed mid job t r y after)) (after ≡ mid) → Settled
    at true d h = asked q of (resolved job.names q) refl d h
    at false d h = never answer.NotRun d.0 refl
  statement_settled (says.Region below above fill residence) of does heard = at (is_active job.state.owners t) does where
    at : (b : Bool) → MatchBool (not b) (OnlyAnswers job answer.NotRun y later) ⊥ → Settled
    at true d = absurd d
    at false d = never answer.NotRun d.0 refl
  statement_settled (says.Where name) of does heard = at (is_active job.state.owners t) does where
    at : (b : Bool) → MatchBool (not b) (OnlyAnswers job answer.NotRun y later) (OnlyAnswers job (where_answer (get job.names name)) y later) → Settled
    at true d = where_settled (get job.names name) d.0
    at false d = never answer.NotRun d.0 refl
  statement_settled says.ReportSubpools of does heard = report_settled _ refl does
  statement_settled says.ReportMap of does heard = report_settled _ refl does

both_true : (a b : Bool) → (a && b) ≡ true → (a ≡ true) × (b ≡ true)
both_true true b h = (refl, h)
both_true false b h = false_true h

module _ (n : ℕ) (bytes : List ℕ) (w : WalkValue) (e : Entry) (mid after : Account) (sees : Sees mid e.before w.read) where
  answered : IsReadIn e.before bytes w.read → (t : Name) (s : Statement) (job later : JobValue) (y : Answer) → e.before ≡ Some job → w.step ≡ Some later → LineOf (is_first e.before) bytes (line.Statement t s) → Observes observed mid job t s y after
      → Serves machine n e.before (line.Statement t s) (AnswerTo n t y ∷ []) w.step → is_end y ≡ true → has (same_name t) mid.root ≡ true → IsSettled after e.before
  answered reads t s job later y is new of heard serves ends root =
      let does = answered_does n job later t s y (subst (λ o. Serves machine n o (line.Statement t s) (AnswerTo n t y ∷ []) (Some later)) is (subst (λ o. Serves machine n e.before (line.Statement t s) (AnswerTo n t y ∷ []) o) new serves)) in
      subst (λ o. IsSettled after o) (sym is)
      (statement_settled job later bytes w.read (subst (λ o. IsReadIn o bytes w.read) is reads) t mid after (subst (λ o. Sees mid o w.read) is sees) y ends root s (subst (λ o. LineOf (is_first o) bytes (line.Statement t s)) is of) does.0 heard)

  -- whatever the line led to
  pub settled_at_end : (t : LineEvent) → IsEntry n bytes w t e → ObservesLine observed mid e.before bytes t w after → ends_task mid.root e.events ≡ true → IsSettled after e.before
  settled_at_end t entry heard ends = at t (entry_serves n bytes w e t entry) heard (subst (λ v. ends_task mid.root v ≡ true) entry.events ends) where
    reads : IsReadIn e.before bytes w.read
    reads = entry.read

    at : (t : LineEvent) → ServesAs (before_it n bytes w e) bytes t w → ObservesLine observed mid e.before bytes t w after → ends_task mid.root (events_of_line n w t) ≡ true → IsSettled after e.before
    at events.Nothing serves h f = false_true f
    at (events.StepBegan None card) serves h f = false_true f
    at (events.StepBegan (Some abended) card) serves h f = false_true f
    at (events.Faulted fault) serves h f = false_true f
    at (events.Answered t a) serves (s, job, later, of, is, new, heard) f =
        let y = full_answer later.state (ended_with_in w.reply) t a in
        let same : full_answer_in w.step (ended_with_in w.reply) t a ≡ y = ap (λ o. full_answer_in o (ended_with_in w.reply) t a) new in
        let parts = both_true (is_end (full_answer_in w.step (ended_with_in w.reply) t a)) (has (same_name t) mid.root) f in
        let serves_it = subst (λ l. Serves machine n e.before l (AnswerTo n t (full_answer_in w.step (ended_with_in w.reply) t a) ∷ []) w.step) (one_reading.one_line (is_first e.before) bytes serves.0 (line.Statement t s) serves.1 of) serves.2 in
        answered reads t s job later y is new of heard (subst (λ x. Serves machine n e.before (line.Statement t s) (AnswerTo n t x ∷ []) w.step) same serves_it) (sym (ap is_end same) ∙ parts.0) parts.1
