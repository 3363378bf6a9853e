-- What places do not decide.
use Rattle.std.proofs.Common.{◌≡◌, ℕ, ◌⊎◌, inl, inr, Bool, true, false, List, Option, Some, None, refl, sym, ap, ◌∙◌, subst}
use Rattle.std.specs.Prelude.{not, ◌==◌, is_some, if◌then◌else◌}
use Rattle.std.specs.Bool.{MatchBool}
use Rattle.std.specs.Option.{option_map}
use Rattle.std.specs.FinMap.{FinMap, get, contains_key}
use Rattle.mvs_laws.proofs.Types.{Name, Code, User, System, Form, SourceRequest, Request, Reply, Statement}
use Rattle.mvs_model.specs.declared.code.Family.TheVariants.{Located}
use Rattle.mvs_model.specs.declared.line.SourceRequest.TheVariants as written
use Rattle.mvs_model.specs.declared.line.Statement.TheVariants as statement
use Rattle.mvs_model.specs.declared.request.Reply.TheVariants as reply
use Rattle.mvs_model.specs.declared.request.Request.TheVariants as request
use Rattle.mvs_model.specs.declared.refusal.Refusal.{Refusal}
use Rattle.mvs_model.specs.declared.refusal.Refusal.TheVariants as refusals
use Rattle.mvs_model.specs.declared.refusal.Consequence.{Consequence}
use Rattle.mvs_model.specs.declared.refusal.Consequence.TheVariants as consequence
use Rattle.mvs_model.specs.Name.{name_cmp}
use Rattle.mvs_model.specs.Place.{PlaceValue}
use Rattle.mvs_model.specs.Owners.{Owners, AreDescendants, is_active, has_subtask}
use Rattle.mvs_model.specs.Pools.{Pool}
use Rattle.mvs_model.specs.State.{State}
use Rattle.mvs_model.specs.Codes.{family, is_conditional, bad_subpool, whole_of_zero, pool_in_use, no_such_pool, active_subtask}
use Rattle.mvs_model.specs.Causes.{IsRefused}
use Rattle.mvs_model.specs.Consequences.{Abends, Settles, by_form, failure, form_of, obtains, reply_to}
use Rattle.request_forms.proofs.Refused.{concerns}
use Rattle.mvs_model.specs.Requests.{is_invalid}
use Rattle.mvs_model.specs.Resolving.{resolved, address_of, places_of}
use Rattle.mvs_model.specs.Replies.{answer_of, done_answer, grant_answer, where_answer}
use Rattle.mvs_model.specs.Steps.{Step}
use Rattle.mvs_model.specs.Answers.{Answer, Abended, NotRun}
use Rattle.mvs_model.specs.Job.{JobValue}
use Rattle.mvs_model.specs.Runs.{Any, Asks, Makes, AnswersTo, OnlyAnswers}
use Rattle.mvs_model.proofs.ByCase.{Acts, attach_refusal, AttachCase, FreeStep, GetStep, DeleteStep}
use Rattle.mvs_model.proofs.StepCases.{step_cases}
use Rattle.mvs_model.proofs.OneOwners.{one_fallen}
use Rattle.mvs_model.proofs.Tests.{false_true, true_false}
use Rattle.judge.proofs.Effects.{does_effect, Pools, SamePools, map_is, some_one}
use Rattle.judge.proofs.Areas.{by_active}
use Rattle.judge.proofs.Alike.{mapped, resolved_alike}
use Rattle.judge.specs.Outline.{AreAlike, IsSettledAlike, Stays, Goes, way, is_settled, request_settled, pool_at, is_user}

-- whether tasks, subpools and the names of pools decide what a request is answered
abbrev pub settled_in : SourceRequest → Pools → Bool
settled_in (written.Obtain form n ask variable area) p = is_invalid n
settled_in (written.ObtainList form n lengths start areas) p = is_invalid n
settled_in (written.Release form n location len) p = is_invalid n
settled_in (written.ReleaseArea form n area) p = is_invalid n
settled_in (written.ReleaseList form n locations lengths) p = is_invalid n
settled_in (written.ReleaseWhole form n) p = true
settled_in (written.Build pool n size primary secondary loc) p = if is_invalid n then true else is_some (p pool)
settled_in (written.Get pool conditional cell) p = not (is_some (p pool))
settled_in (written.Free pool cell) p = not (is_some (p pool))
settled_in (written.Delete pool) p = true
settled_in (written.Attach name gifts residence) p = true
settled_in written.Return p = true
settled_in (written.Abend n) p = true
settled_in (written.Show location n) p = false
settled_in (written.Put location bytes) p = false
settled_in (written.Move to from n) p = false

-- the code of the abend then, if it is one
abbrev pub code_in : SourceRequest → Name → Owners → Pools → Option Code
code_in (written.Obtain form n ask variable area) t o p = Some (bad_subpool (family form) true)
code_in (written.ObtainList form n lengths start areas) t o p = Some (bad_subpool (family form) true)
code_in (written.Release form n location len) t o p = Some (bad_subpool (family form) false)
code_in (written.ReleaseArea form n area) t o p = Some (bad_subpool (family form) false)
code_in (written.ReleaseList form n locations lengths) t o p = Some (bad_subpool (family form) false)
code_in (written.ReleaseWhole form n) t o p = if is_invalid n then Some (bad_subpool (family form) false) else (if n == 0 then Some whole_of_zero else None)
code_in (written.Build pool n size primary secondary loc) t o p = if is_invalid n then Some (bad_subpool Located true) else Some pool_in_use
code_in (written.Delete pool) t o p = if is_some (p pool) then None else Some no_such_pool
code_in (written.Attach name gifts residence) t o p = attach_refusal o t name gifts
code_in written.Return t o p = if has_subtask o t then Some active_subtask else None
code_in (written.Abend n) t o p = Some (User n)
code_in _ t o p = Some no_such_pool

-- the reply to it otherwise
abbrev pub done_in : SourceRequest → Reply
done_in (written.Attach name gifts residence) = reply.Attached
done_in written.Return = reply.Ended
done_in _ = reply.Rc0

module _ (names : FinMap name_cmp PlaceValue) (old : State) (t : Name) (new : State) (answered : Reply) where
  abbrev pub PrintedAnswer : Option Code → Reply → Type 0
  PrintedAnswer None otherwise = answered ≡ otherwise
  PrintedAnswer (Some code) otherwise = (fallen : List Name) × AreDescendants old.owners t fallen × (answered ≡ reply.Abended code fallen)

  abend : (code : Code) (otherwise : Reply) → Abends old t code answered new → PrintedAnswer (Some code) otherwise
  abend code otherwise x = (x.0.fallen, x.0.is_fallen, x.1)

  invalid : (Q : Type 0) (b : Bool) (code : Code) (otherwise : Reply) → b ≡ true → MatchBool b (Abends old t code answered new) Q → PrintedAnswer (Some code) otherwise
  invalid Q true code otherwise e x = abend code otherwise x
  invalid Q false code otherwise e x = false_true e

  whole_said : (Q : Type 0) (b c : Bool) (code other : Code) → MatchBool b (Abends old t code answered new) (MatchBool c (Abends old t other answered new) ((answered ≡ reply.Rc0) × Q)) → PrintedAnswer (if b then Some code else (if c then Some other else None)) reply.Rc0
  whole_said Q true c code other x = abend code reply.Rc0 x
  whole_said Q false true code other x = abend other reply.Rc0 x
  whole_said Q false false code other x = x.0

  build_said : (Q : Type 0) (b c : Bool) (code other : Code) → (if b then true else c) ≡ true → MatchBool b (Abends old t code answered new) (MatchBool c (Abends old t other answered new) Q) → PrintedAnswer (if b then Some code else Some other) reply.Rc0
  build_said Q true c code other e x = abend code reply.Rc0 x
  build_said Q false true code other e x = abend other reply.Rc0 x
  build_said Q false false code other e x = false_true e

  get_said : (name : Name) (conditional : Bool) (o : Option Pool) → not (is_some o) ≡ true → GetStep old t name conditional o answered new → PrintedAnswer (Some no_such_pool) reply.Rc0
  get_said name conditional None e x = abend no_such_pool reply.Rc0 x
  get_said name conditional (Some pool) e x = false_true e

  free_said : (name : Name) (c : ℕ) (o : Option Pool) → not (is_some o) ≡ true → FreeStep old t name c o answered new → PrintedAnswer (Some no_such_pool) reply.Rc0
  free_said name c None e x = abend no_such_pool reply.Rc0 x
  free_said name c (Some pool) e x = false_true e

  delete_said : (name : Name) (o : Option Pool) → DeleteStep old t name o answered new → PrintedAnswer (if is_some (option_map (λ pool. pool.subpool) o) then None else Some no_such_pool) reply.Rc0
  delete_said name None x = abend no_such_pool reply.Rc0 x
  delete_said name (Some pool) x = x.0

  attach_said : (name : Name) (gifts : _) (residence : _) (c : Option Code) → AttachCase old t name gifts residence c answered new → PrintedAnswer c reply.Attached
  attach_said name gifts residence None x = x.0
  attach_said name gifts residence (Some code) x = abend code reply.Attached x

  return_said : (Q : Type 0) (b : Bool) → MatchBool b (Abends old t active_subtask answered new) ((answered ≡ reply.Ended) × Q) → PrintedAnswer (if b then Some active_subtask else None) reply.Ended
  return_said Q true x = abend active_subtask reply.Ended x
  return_said Q false x = x.0

  there : (name : Name) → is_some (pool_at old name) ≡ is_some (get old.pools name)
  there name = mapped _ (get old.pools name)

  abbrev pub AddressHints : SourceRequest → Request → Type 0
  AddressHints k r = settled_in k (pool_at old) ≡ true → Acts old t r answered new → PrintedAnswer (code_in k t old.owners (pool_at old)) (done_in k)

  pub said_by : (k : SourceRequest) (r : Request) → resolved names k ≡ Some r → AddressHints k r
  said_by (written.Obtain form n ask variable area) r e = subst (AddressHints (written.Obtain form n ask variable area)) (some_one _ r e) (λ s x. invalid _ (is_invalid n) _ reply.Rc0 s x)
  said_by (written.ObtainList form n lengths start areas) r e = subst (AddressHints (written.ObtainList form n lengths start areas)) (some_one _ r e) (λ s x. invalid _ (is_invalid n) _ reply.Rc0 s x)
  said_by (written.Release form n location len) r e = map_is (address_of names location) _ r (AddressHints (written.Release form n location len)) e (λ a s x. invalid _ (is_invalid n) _ reply.Rc0 s x)
  said_by (written.ReleaseArea form n area) r e = map_is (get names area) _ r (AddressHints (written.ReleaseArea form n area)) e (λ a s x. invalid _ (is_invalid n) _ reply.Rc0 s x)
  said_by (written.ReleaseList form n locations lengths) r e = map_is (places_of names locations lengths) _ r (AddressHints (written.ReleaseList form n locations lengths)) e (λ a s x. invalid _ (is_invalid n) _ reply.Rc0 s x)
  said_by (written.ReleaseWhole form n) r e = subst (AddressHints (written.ReleaseWhole form n)) (some_one _ r e) (λ s x. whole_said _ (is_invalid n) (n == 0) _ _ x)
  said_by (written.Build pool n size primary secondary loc) r e = subst (AddressHints (written.Build pool n size primary secondary loc)) (some_one _ r e)
      (λ s x. build_said _ (is_invalid n) (contains_key old.pools pool) _ _ (ap (λ c. if is_invalid n then true else c) (sym (there pool)) ∙ s) x)
  said_by (written.Get pool conditional cell) r e = subst (AddressHints (written.Get pool conditional cell)) (some_one _ r e) (λ s x. get_said pool conditional (get old.pools pool) (ap not (sym (there pool)) ∙ s) x)
  said_by (written.Free pool cell) r e = map_is (address_of names cell) _ r (AddressHints (written.Free pool cell)) e (λ a s x. free_said pool a (get old.pools pool) (ap not (sym (there pool)) ∙ s) x)
  said_by (written.Delete pool) r e = subst (AddressHints (written.Delete pool)) (some_one _ r e) (λ s x. delete_said pool (get old.pools pool) x)
  said_by (written.Attach name gifts residence) r e = subst (AddressHints (written.Attach name gifts residence)) (some_one _ r e) (λ s x. attach_said name gifts residence (attach_refusal old.owners t name gifts) x)
  said_by written.Return r e = subst (AddressHints written.Return) (some_one _ r e) (λ s x. return_said _ (has_subtask old.owners t) x)
  said_by (written.Abend n) r e = subst (AddressHints (written.Abend n)) (some_one _ r e) (λ s x. abend (User n) reply.Rc0 x)
  said_by (written.Show location n) r e = λ s x. false_true s
  said_by (written.Put location bytes) r e = λ s x. false_true s
  said_by (written.Move to from n) r e = λ s x. false_true s

  -- what an answer shows of this
  abbrev pub Shown : SourceRequest → Request → Type 0
  Shown k r = request_settled k (answer_of old k r answered) ≡ true → Acts old t r answered new → settled_in k (pool_at old) ≡ true

  by_reply : {P : Type 0} (k : SourceRequest) (r : Request) (n : ℕ) (c : Reply) → answered ≡ c → is_user n (answer_of old k r c) ≡ false → is_user n (answer_of old k r answered) ≡ true → P
  by_reply k r n c e f s = true_false (sym s ∙ ap (λ c. is_user n (answer_of old k r c)) e ∙ f)

  get_shown : (k : SourceRequest) (r : Request) (name : Name) (conditional : Bool) (o : Option Pool) → is_user 4002 (answer_of old k r answered) ≡ true → GetStep old t name conditional o answered new → not (is_some o) ≡ true
  get_shown k r name conditional None s x = refl
  get_shown k r name conditional (Some pool) s (inl x) = by_reply k r 4002 _ x.2.1 refl s
  get_shown k r name true (Some pool) s (inr x) = by_reply k r 4002 reply.NoCell x.1.0 refl s
  get_shown k r name false (Some pool) s (inr (n, inl x)) = by_reply k r 4002 _ x.1.1 refl s
  get_shown k r name false (Some pool) s (inr (n, inr x)) = by_reply k r 4002 _ x.3.2.1 refl s

  free_shown : (k : SourceRequest) (r : Request) (name : Name) (c : ℕ) (o : Option Pool) → is_user 4002 (answer_of old k r answered) ≡ true → FreeStep old t name c o answered new → not (is_some o) ≡ true
  free_shown k r name c None s x = refl
  free_shown k r name c (Some pool) s x = by _ _ x where
    by : (Q : Type 0) (b : Bool) → MatchBool b (Abends old t (User 4001) answered new) ((answered ≡ reply.Rc0) × Q) → not (is_some (Some pool)) ≡ true
    by Q true x = by_reply k r 4002 _ x.1 refl s
    by Q false x = by_reply k r 4002 _ x.0 refl s

  build_shown : (Q R : Type 0) (k : SourceRequest) (r : Request) (b c d : Bool) → (if b then true else is_user 4008 (answer_of old k r answered)) ≡ true
      → MatchBool b (Abends old t (System 0xB78) answered new) (MatchBool c (Abends old t pool_in_use answered new) (MatchBool d (Abends old t (User 4007) answered new) ((Q × Abends old t (System 0x878) answered new) ⊎ (R × (answered ≡ reply.Rc0)))))
      → (if b then true else c) ≡ true
  build_shown Q R k r true c d s x = refl
  build_shown Q R k r false true d s x = refl
  build_shown Q R k r false false true s x = by_reply k r 4008 _ x.1 refl s
  build_shown Q R k r false false false s (inl x) = by_reply k r 4008 _ x.1.1 refl s
  build_shown Q R k r false false false s (inr x) = by_reply k r 4008 _ x.1 refl s

  pub shown_by : (k : SourceRequest) (r : Request) → resolved names k ≡ Some r → Shown k r
  shown_by (written.Build pool n size primary secondary loc) r e = subst (Shown (written.Build pool n size primary secondary loc)) (some_one _ r e)
      (λ s x. ap (λ c. if is_invalid n then true else c) (there pool) ∙ build_shown _ _ (written.Build pool n size primary secondary loc) (request.Build pool n size primary secondary loc) (is_invalid n) (contains_key old.pools pool) _ s x)
  shown_by (written.Get pool conditional cell) r e = subst (Shown (written.Get pool conditional cell)) (some_one _ r e) (λ s x. ap not (there pool) ∙ get_shown (written.Get pool conditional cell) (request.Get pool conditional) pool conditional (get old.pools pool) s x)
  shown_by (written.Free pool cell) r e = map_is (address_of names cell) _ r (Shown (written.Free pool cell)) e (λ a s x. ap not (there pool) ∙ free_shown (written.Free pool cell) (request.Free pool a) pool a (get old.pools pool) s x)
  shown_by (written.Obtain form n ask variable area) r e = λ s x. s
  shown_by (written.ObtainList form n lengths start areas) r e = λ s x. s
  shown_by (written.Release form n location len) r e = λ s x. s
  shown_by (written.ReleaseArea form n area) r e = λ s x. s
  shown_by (written.ReleaseList form n locations lengths) r e = λ s x. s
  shown_by (written.ReleaseWhole form n) r e = λ s x. s
  shown_by (written.Delete pool) r e = λ s x. s
  shown_by (written.Attach name gifts residence) r e = λ s x. s
  shown_by written.Return r e = λ s x. s
  shown_by (written.Abend n) r e = λ s x. s
  shown_by (written.Show location n) r e = λ s x. s
  shown_by (written.Put location bytes) r e = λ s x. s
  shown_by (written.Move to from n) r e = λ s x. s

-- ---- two steps

-- what an active task's step comes to
pub acted : (old : State) (t : Name) (r : Request) (answered : Reply) (new : State) → is_active old.owners t ≡ true → Step old t r answered new → Acts old t r answered new
acted old t r answered new active x = at _ _ (is_active old.owners t) active (step_cases old t r answered new x) where
  at : (P Q : Type 0) (b : Bool) → b ≡ true → MatchBool (not b) P Q → Q
  at P Q true e x = x
  at P Q false e x = false_true e

-- a request is answered that its task is not active only if that is so
failure_runs : (form : Form) (code : Code) → failure form code ≡ consequence.NotRun → ⊥
failure_runs form code e = at (is_conditional form) e where
  at : (b : Bool) → (if b then consequence.Rc4 else consequence.Abend code) ≡ consequence.NotRun → ⊥
  at true e = cc
  at false e = cc

only_inactive : (form : Form) (obtaining : Bool) (x : Refusal) → by_form form obtaining x ≡ consequence.NotRun → x ≡ refusals.NotActive
only_inactive form obtaining refusals.NotActive e = refl
only_inactive form obtaining refusals.Shortage e = absurd (failure_runs form _ e)
only_inactive form obtaining (refusals.Member k) e = absurd (failure_runs form _ e)
only_inactive form obtaining refusals.NoPart e = absurd (failure_runs form _ e)
only_inactive form obtaining refusals.NoSubpool e = absurd (failure_runs form _ e)
only_inactive form obtaining refusals.NotHeld e = absurd (failure_runs form _ e)
only_inactive form obtaining refusals.Overlap e = absurd (failure_runs form _ e)
only_inactive form obtaining _ e = absurd cc

pub request_runs : (names : FinMap name_cmp PlaceValue) (old : State) (t : Name) (k : SourceRequest) (r : Request) (answered : Reply) (new : State) → resolved names k ≡ Some r → is_active old.owners t ≡ true → Step old t r answered new → answered ≡ reply.NotRun → ⊥
request_runs names old t k r answered new e active (inl x) is = at (reply_to r x.0) refl x.2 where
  at : (c : Consequence) → reply_to r x.0 ≡ c → Settles old t c answered new → ⊥
  at consequence.NotRun f s = true_false (sym active ∙ concerns old t r refusals.NotActive (subst (IsRefused old t r) (only_inactive (form_of r) (obtains r) x.0 f) x.1))
  at consequence.Rc4 f s = let g : reply.NotRun ≡ reply.Rc4 = sym is ∙ s.0 in cc
  at consequence.NoCell f s = let g : reply.NotRun ≡ reply.NoCell = sym is ∙ s.0 in cc
  at (consequence.Abend code) f s = let g : reply.NotRun ≡ reply.Abended code s.0.fallen = sym is ∙ s.1 in cc
request_runs names old t k r answered new e active (inr x) is =
    let d = does_effect names old t new answered k r e x.1 in
    let f : Stays ≡ Goes = ap (λ c. way (answer_of old k r c)) (sym is) ∙ d.goes in cc

-- its answer is one of a request
settled_of : (k : SourceRequest) (old : State) (r : Request) (answered : Reply) → (answered ≡ reply.NotRun → ⊥) → is_settled (statement.Request k) (answer_of old k r answered) ≡ true → request_settled k (answer_of old k r answered) ≡ true
settled_of k old r reply.NotRun runs e = absurd (runs refl)
settled_of k old r reply.Rc0 runs e = e
settled_of k old r reply.Rc4 runs e = e
settled_of k old r (reply.Obtained p) runs e = granted k e where
  granted : (j : SourceRequest) → is_settled (statement.Request k) (grant_answer j p) ≡ true → request_settled k (grant_answer j p) ≡ true
  granted (written.Obtain form n ask true area) e = e
  granted (written.Obtain form n ask false area) e = e
  granted _ e = e
settled_of k old r (reply.Listed ps) runs e = e
settled_of k old r (reply.Cell p) runs e = e
settled_of k old r reply.NoCell runs e = e
settled_of k old r reply.Attached runs e = e
settled_of k old r reply.Ended runs e = e
settled_of k old r reply.Done runs e = done r e where
  done : (q : Request) → is_settled (statement.Request k) (done_answer old q) ≡ true → request_settled k (done_answer old q) ≡ true
  done (request.Show a n) e = e
  done _ e = e
settled_of k old r (reply.Abended code fallen) runs e = e

settled_alike : (k : SourceRequest) (p q : Pools) → SamePools p q → settled_in k p ≡ settled_in k q
settled_alike (written.Build pool n size primary secondary loc) p q e = ap (λ o. if is_invalid n then true else is_some o) (e pool)
settled_alike (written.Get pool conditional cell) p q e = ap (λ o. not (is_some o)) (e pool)
settled_alike (written.Free pool cell) p q e = ap (λ o. not (is_some o)) (e pool)
settled_alike _ p q e = refl

code_alike : (k : SourceRequest) (t : Name) (o : Owners) (p q : Pools) → SamePools p q → code_in k t o p ≡ code_in k t o q
code_alike (written.Delete pool) t o p q e = ap (λ o. if is_some o then None else Some no_such_pool) (e pool)
code_alike _ t o p q e = refl

-- the answer for it does not depend on a state
one_done : (k : SourceRequest) (r q : Request) (a b : State) → answer_of a k r (done_in k) ≡ answer_of b k q (done_in k)
one_done (written.Attach name gifts residence) r q a b = refl
one_done written.Return r q a b = refl
one_done _ r q a b = refl

module _ (one other : JobValue) (t : Name) (x y : Answer) (a b : JobValue) (like : AreAlike one other) where
  said_alike : (k : SourceRequest) (r q : Request) (m : Makes Any one t k r x a) (n : Makes Any other t k q y b) (c d : Option Code) → c ≡ d → PrintedAnswer one.names one.state t a.state m.reply c (done_in k) → PrintedAnswer other.names other.state t b.state n.reply d (done_in k) → x ≡ y
  said_alike k r q m n None None e u v = m.answer_is ∙ ap (answer_of one.state k r) u ∙ one_done k r q one.state other.state ∙ sym (n.answer_is ∙ ap (answer_of other.state k q) v)
  said_alike k r q m n None (Some d) e u v = absurd cc
  said_alike k r q m n (Some c) None e u v = absurd cc
  said_alike k r q m n (Some c) (Some d) e u v =
      let code : c ≡ d = cc in
      let fallen = one_fallen one.state.owners t u.0 v.0 u.1 (subst (λ o. AreDescendants o t v.0) (sym like.owners) v.1) in
      m.answer_is ∙ ap (answer_of one.state k r) u.2 ∙ (λ i. Abended (code i) (fallen i)) ∙ sym (n.answer_is ∙ ap (answer_of other.state k q) v.2)

  asks_settled : is_active one.state.owners t ≡ true → (k : SourceRequest) (o p : Option Request) → resolved one.names k ≡ o → resolved other.names k ≡ p → is_some o ≡ is_some p → Asks Any one t k o x a → Asks Any other t k p y b → is_settled (statement.Request k) x ≡ true → x ≡ y
  asks_settled active k None None e f s m n w = m.0 ∙ sym n.0
  asks_settled active k None (Some q) e f s m n w = false_true s
  asks_settled active k (Some r) None e f s m n w = true_false s
  asks_settled active k (Some r) (Some q) e f s m n w =
      let u = acted one.state t r m.reply a.state active m.step in
      let v = acted other.state t q n.reply b.state (ap (λ o. is_active o t) (sym like.owners) ∙ active) n.step in
      let here = shown_by one.names one.state t a.state m.reply k r e (settled_of k one.state r m.reply (request_runs one.names one.state t k r m.reply a.state e active m.step) (ap (is_settled (statement.Request k)) (sym m.answer_is) ∙ w)) u in
      let there = sym (settled_alike k (pool_at one.state) (pool_at other.state) like.pools) ∙ here in
      said_alike k r q m n _ _ (code_alike k t one.state.owners (pool_at one.state) (pool_at other.state) like.pools ∙ ap (λ o. code_in k t o (pool_at other.state)) like.owners)
      (said_by one.names one.state t a.state m.reply k r e here u) (said_by other.names other.state t b.state n.reply k q f there v)

  says_settled : is_active one.state.owners t ≡ true → (s : Statement) → AnswersTo Any one t s x a → AnswersTo Any other t s y b → is_settled s x ≡ true → x ≡ y
  says_settled active (statement.Region below above fill residence) m n w = absurd m
  says_settled active (statement.Request k) m n w = asks_settled active k (resolved one.names k) (resolved other.names k) refl refl (resolved_alike one.names other.names like.named k) m n w
  says_settled active (statement.Where name) m n w = at (get one.names name) (get other.names name) (like.named name) m.0 n.0 where
    at : (o p : Option PlaceValue) → is_some o ≡ is_some p → x ≡ where_answer o → y ≡ where_answer p → x ≡ y
    at None None e u v = u ∙ sym v
    at None (Some q) e u v = false_true e
    at (Some p) None e u v = true_false e
    at (Some p) (Some q) e u v = true_false (sym w ∙ ap (is_settled (statement.Where name)) u)
  says_settled active statement.ReportSubpools m n w = true_false (sym w ∙ ap (is_settled statement.ReportSubpools) m.0)
  says_settled active statement.ReportMap m n w = true_false (sym w ∙ ap (is_settled statement.ReportMap) m.0)

pub settled_law : IsSettledAlike
settled_law one other t s x y a b like d e w =
    by_active (is_active one.state.owners t) d (subst (λ o. MatchBool (not (is_active o t)) (OnlyAnswers other NotRun y b) (AnswersTo Any other t s y b)) (sym like.owners) e)
    (λ m n. m.0 ∙ sym n.0)
    (λ active m n. says_settled one other t x y a b like active s m n w)
