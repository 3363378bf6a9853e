-- What is reported of an entry.
use Rattle.std.proofs.Common.{◌≡◌, ℕ, ◌+◌, ◌*◌, ◌/◌, inl, inr, List, [], ◌∷◌, ◌++◌, append-nil, length, Option, Some, None, Bool, true, false, not, refl, sym, ap, subst, ◌∙◌, ◌<◌, ◌≤◌, arith}
use Rattle.std.specs.Prelude.{◌≢◌, ◌⊎◌, ◌||◌, ◌&&◌, nat_lt, is_some, unwrap_or, option_map, if◌then◌else◌}
use Rattle.std.specs.List.{list_any}
use Rattle.std.specs.FinMap.{get}
use Rattle.mvs_model.specs.declared.line.Fault.{Fault}
use Rattle.mvs_model.specs.declared.line.Line.{Line}
use Rattle.mvs_model.specs.declared.line.Line.TheVariants as line
use Rattle.mvs_model.specs.declared.line.Statement.{Statement}
use Rattle.mvs_model.specs.declared.line.Statement.TheVariants as says
use Rattle.mvs_model.specs.declared.name.Name.{Name}
use Rattle.mvs_model.specs.declared.outcome.Outcome.{Outcome}
use Rattle.mvs_model.specs.Answers.{Event, AnswerTo, Region, StepEnded, Faulted}
use Rattle.mvs_model.specs.Runs.{machine}
use Rattle.mvs_model.specs.Card.{CardValue}
use Rattle.mvs_model.specs.Job.{JobValue}
use Rattle.mvs_model.specs.Pools.{Pool, in_parts}
use Rattle.mvs_model.specs.Reasons.{Holds}
use Rattle.mvs_model.specs.declared.reason.Holder.{Holder}
use Rattle.mvs_model.specs.declared.reason.Holder.TheVariants.{Nobody, Outside, Part}
use Rattle.mvs_model.specs.Reading.{FaultOf, LineOf}
use Rattle.mvs_model.specs.State.{Holding, State, is_plain, plain}
use Rattle.mvs_model.specs.Storage.{Regions, end_of}
use Rattle.mvs_model.specs.View.{IsBounded}
use Rattle.mvs_model.specs.Walk.{Serves, is_first}
use Rattle.mvs_model.proofs.Reading.{one_reading}
use Rattle.mvs_model.proofs.TakenCells.{part_found}
use Rattle.mvs_model.proofs.Tests.{false_true, none_some}
use Rattle.std.specs.Io.KnownBytes.{Appends}
use Rattle.mvs_job.specs.declared.printing.Stop.{Stop}
use Rattle.mvs_job.specs.declared.printing.Stop.TheVariants as stop
use Rattle.mvs_job.proofs.ExplainedLine.{before_it, entry_serves}
use Rattle.mvs_job.specs.declared.consumer.End.{End}
use Rattle.mvs_job.specs.declared.consumer.End.TheVariants as end
use Rattle.mvs_job.specs.declared.walk.LineEvent.{LineEvent}
use Rattle.mvs_job.specs.declared.walk.LineEvent.TheVariants as events
use Rattle.mvs_job.specs.Consuming.{EndsIn, IsEnd, IsEntry, IsOfLine, Piece, WritesFront, WritesPiece, WritesUntil}
use Rattle.mvs_job.specs.LineEvents.{IsReadIn, ServesAs, WalkValue, events_of_line, region_card}
use Rattle.mvs_job.specs.Observing.{ObservesLine}
use Rattle.mvs_job.specs.Steady.{IsSteady}
use Rattle.mvs_job.specs.Trace.{Closed, Entry, Executed, Exhausted, Faulty, IsExecuted, Kind}
use Rattle.mvs_job.proofs.Hearing.{line_stays}
use Rattle.area_history.specs.declared.account.Account.{Account}
use Rattle.area_history.specs.declared.grant.AreaGrant.{AreaGrant}
use Rattle.area_history.specs.declared.account.Leftovers.{Leftovers}
use Rattle.area_history.specs.Accounts.{IsKept, IsLedger, IsSettled, KeepsAccount, Sees, may_end, summary_of}
use Rattle.area_history.specs.Ledgers.{Ledger, any_leak, begun, ends_step, ends_task, granted_at, granted_by, granted_in, in_step, is_step_end, Left, leaks_at, leaks_with, ledger_after, ledger_from, left_in, left_of, new_step, no_step, nothing_left, pools_at, pools_by, pools_in, some_leak}
use Rattle.area_history.specs.declared.pools.PoolBuild.{PoolBuild}
use Rattle.area_history.specs.Histories.{events_at, events_by, events_in}
use Rattle.area_history.specs.Reporting.{Knows, after_first_line, changes_step, reported, with_report}
use Rattle.area_history.proofs.Ended.{observed}

-- ---- the ledger and the leaks after one more entry

ledger_snoc : (l : Ledger) (history : List Entry) (e : Entry) → ledger_from l (history ++ e ∷ []) ≡ ledger_after (ledger_from l history) e
ledger_snoc l [] e = refl
ledger_snoc l (x ∷ history) e = ledger_snoc (ledger_after l x) history e

or_nested : (a b c : Bool) → (a || (b || c)) ≡ ((a || b) || c)
or_nested true b c = refl
or_nested false b c = refl

pub or_false : (b : Bool) → (b || false) ≡ b
or_false true = refl
or_false false = refl

or_turned : (a b c : Bool) → ((a || b) || c) ≡ ((a || c) || b)
or_turned true b c = refl
or_turned false true true = refl
or_turned false true false = refl
or_turned false false c = sym (or_false c)

any_snoc : (l : Ledger) (history : List Entry) (e : Entry) → any_leak l (history ++ e ∷ []) ≡ (any_leak l history || some_leak (leaks_with (ledger_from l history) e))
any_snoc l [] e = or_false (some_leak (leaks_with l e))
any_snoc l (x ∷ history) e = ap (λ b. some_leak (leaks_with l x) || b) (any_snoc (ledger_after l x) history e) ∙ or_nested (some_leak (leaks_with l x)) (any_leak (ledger_after l x) history) (some_leak (leaks_with (ledger_from (ledger_after l x) history) e))

-- what is known after the entry
pub knows_next : (first old now : Bool) (a b : Account) (history : List Entry) (e : Entry) → Knows first old a history → IsLedger b (ledger_after (ledger_from no_step history) e) → now ≡ (old || some_leak (leaks_at history e)) → Knows first now b (history ++ e ∷ [])
knows_next first old now a b history e known ledger is = record {
  ledger = subst (IsLedger b) (sym (ledger_snoc no_step history e)) ledger;
  leaked = is ∙ ap (λ x. x || some_leak (leaks_at history e)) known.leaked ∙ or_turned (any_leak no_step history) first (some_leak (leaks_at history e)) ∙ ap (λ x. x || first) (sym (any_snoc no_step history e));
}

pub same_leaked : (old : Bool) (ls : Left) → some_leak ls ≡ false → old ≡ (old || some_leak ls)
same_leaked old ls e = sym (or_false old) ∙ ap (λ x. old || x) (sym e)

pub now_leaked : (old : Bool) (ls : Left) → some_leak ls ≡ true → true ≡ (old || some_leak ls)
now_leaked true ls e = refl
now_leaked false ls e = sym e

-- ---- what was read of a line, and the kind of its entry

-- A line that says this is executed in a step, or before the first one, which it begins if it is a statement.
abbrev IsServed : Option JobValue → Line → Type 0
IsServed (Some job) l = Unit {0}
IsServed None line.Nothing = Unit {0}
IsServed None (line.Statement t (says.Region below above fill residence)) = Unit {0}
IsServed None (line.Statement t (says.Request a)) = ⊥
IsServed None (line.Statement t (says.Where name)) = ⊥
IsServed None (line.Statement t says.ReportSubpools) = ⊥
IsServed None (line.Statement t says.ReportMap) = ⊥

served : (o : Option JobValue) (l : Line) (number : ℕ) (events : List Event) (new : Option JobValue) → Serves machine number o l events new → IsServed o l
served (Some job) l number events new h = tt
served None line.Nothing number events new h = tt
served None (line.Statement t (says.Region below above fill residence)) number events new h = tt
served None (line.Statement t (says.Request a)) number events new h = h
served None (line.Statement t (says.Where name)) number events new h = h
served None (line.Statement t says.ReportSubpools) number events new h = h
served None (line.Statement t says.ReportMap) number events new h = h

-- before the first step nothing is granted, built or done
none_granted_by : (number : ℕ) (events : List Event) (new : Option JobValue) (l : Line) → IsServed None l → granted_by number l events new ≡ []
none_granted_by number events new line.Nothing h = refl
none_granted_by number events new (line.Statement t (says.Region below above fill residence)) h = refl
none_granted_by number events new (line.Statement t (says.Request a)) h = absurd h
none_granted_by number events new (line.Statement t (says.Where name)) h = absurd h
none_granted_by number events new (line.Statement t says.ReportSubpools) h = absurd h
none_granted_by number events new (line.Statement t says.ReportMap) h = absurd h

none_built_by : (number : ℕ) (events : List Event) (new : Option JobValue) (pools : List PoolBuild) (l : Line) → IsServed None l → pools_by number l events new pools ≡ pools
none_built_by number events new pools line.Nothing h = refl
none_built_by number events new pools (line.Statement t (says.Region below above fill residence)) h = refl
none_built_by number events new pools (line.Statement t (says.Request a)) h = absurd h
none_built_by number events new pools (line.Statement t (says.Where name)) h = absurd h
none_built_by number events new pools (line.Statement t says.ReportSubpools) h = absurd h
none_built_by number events new pools (line.Statement t says.ReportMap) h = absurd h

none_done_by : (number : ℕ) (events : List Event) (new : Option JobValue) (areas : ℕ) (l : Line) → IsServed None l → events_by number l events new areas ≡ []
none_done_by number events new areas line.Nothing h = refl
none_done_by number events new areas (line.Statement t (says.Region below above fill residence)) h = refl
none_done_by number events new areas (line.Statement t (says.Request a)) h = absurd h
none_done_by number events new areas (line.Statement t (says.Where name)) h = absurd h
none_done_by number events new areas (line.Statement t says.ReportSubpools) h = absurd h
none_done_by number events new areas (line.Statement t says.ReportMap) h = absurd h

module _ (n : ℕ) (bytes : List ℕ) (e : Entry) where
  -- the entry is of a line that was executed, or has a fault
  abbrev IsKind : Option JobValue → Type 0
  IsKind o = ((said : Line) × LineOf (is_first o) bytes said × (e.kind ≡ Executed said) × IsServed o said) ⊎ ((fault : Fault) × FaultOf (is_first o) bytes fault × (e.kind ≡ Faulty fault))

  executed_kind : IsExecuted n e.before bytes e → IsKind e.before
  executed_kind (said, events, new, of, serves, is) = inl (said, of, ap (λ (e : Entry). e.kind) is, served e.before said n events new serves)

  kind_of : (t : LineEvent) → IsOfLine t n bytes e → IsKind e.before
  kind_of (events.Faulted fault) (other, of, is) = inr (other, of, ap (λ (e : Entry). e.kind) is)
  kind_of events.Nothing x = executed_kind x
  kind_of (events.StepBegan end card) x = executed_kind x
  kind_of (events.Answered t a) x = executed_kind x

  executed_number : IsExecuted n e.before bytes e → e.number ≡ n
  executed_number (said, events, new, of, serves, is) = ap (λ (e : Entry). e.number) is

  number_of : (t : LineEvent) → IsOfLine t n bytes e → e.number ≡ n
  number_of (events.Faulted fault) (other, of, is) = ap (λ (e : Entry). e.number) is
  number_of events.Nothing x = executed_number x
  number_of (events.StepBegan end card) x = executed_number x
  number_of (events.Answered t a) x = executed_number x

  module _ (read : Line) {X : Type 0} (f : Option JobValue → Line → X) (g : Option JobValue → Kind → X) (none : (k : Kind) → g None k ≡ f None line.Nothing) (begins : (l : Line) → IsServed None l → f None l ≡ f None line.Nothing) (some : (job : JobValue) (l : Line) → g (Some job) (Executed l) ≡ f (Some job) l) (faulty : (job : JobValue) (fault : Fault) → g (Some job) (Faulty fault) ≡ f (Some job) line.Nothing) where
    read_at : (o : Option JobValue) → IsReadIn o bytes read → IsKind o → f o read ≡ g o e.kind
    read_at None (inl of) (inl (said, here, kind, serves)) = ap (f None) (one_reading.one_line true bytes read said of here) ∙ begins said serves ∙ sym (none e.kind)
    read_at None (inl of) (inr (fault, here, kind)) = absurd (one_reading.not_both true bytes read fault of here)
    read_at None (inr (fault, of, is)) kind = ap (f None) is ∙ sym (none e.kind)
    read_at (Some job) (inl of) (inl (said, here, kind, serves)) = ap (f (Some job)) (one_reading.one_line false bytes read said of here) ∙ sym (some job said) ∙ ap (g (Some job)) (sym kind)
    read_at (Some job) (inl of) (inr (fault, here, kind)) = absurd (one_reading.not_both false bytes read fault of here)
    read_at (Some job) (inr (fault, of, is)) (inl (said, here, kind, serves)) = absurd (one_reading.not_both false bytes said fault here of)
    read_at (Some job) (inr (fault, of, is)) (inr (other, here, kind)) = ap (f (Some job)) is ∙ sym (faulty job other) ∙ ap (g (Some job)) (sym kind)

    read_as : (t : LineEvent) → IsOfLine t n bytes e → IsReadIn e.before bytes read → f e.before read ≡ g e.before e.kind
    read_as t of is = read_at e.before is (kind_of t of)

  -- whether a step ends with it
  executed_ends : (x : List Event) → IsKind e.before → e.events ≡ x → ends_step e ≡ list_any is_step_end x
  executed_ends x (inl (said, of, kind, serves)) is = ap (λ k. ends_step (record { number = e.number; bytes = e.bytes; kind = k; events = e.events; before = e.before; after = e.after })) kind ∙ ap (list_any is_step_end) is
  executed_ends x (inr (fault, of, kind)) is = ap (λ k. ends_step (record { number = e.number; bytes = e.bytes; kind = k; events = e.events; before = e.before; after = e.after })) kind ∙ ap (list_any is_step_end) is

  pub ends_as : (w : WalkValue) (t : LineEvent) → IsEntry n bytes w t e → ends_step e ≡ list_any is_step_end (events_of_line n w t)
  ends_as w t is = executed_ends (events_of_line n w t) (kind_of t is.of_line) is.events

  -- a REGION statement may end a step
  region_read : (read : Line) (root : Option Name) (t : Name) (s : Statement) (card : CardValue) (job : JobValue) → e.before ≡ Some job → IsReadIn e.before bytes read → LineOf (is_first e.before) bytes (line.Statement t s) → region_card t s ≡ Some card → may_end root read ≡ true
  region_read read root t (says.Region below above fill residence) card job is reads of same = at (subst (λ o. IsReadIn o bytes read) is reads) (subst (λ o. LineOf (is_first o) bytes (line.Statement t (says.Region below above fill residence))) is of) where
    at : IsReadIn (Some job) bytes read → LineOf false bytes (line.Statement t (says.Region below above fill residence)) → may_end root read ≡ true
    at (inl h) here = ap (may_end root) (one_reading.one_line false bytes read _ h here)
    at (inr (fault, h, nothing)) here = absurd (one_reading.not_both false bytes _ fault here h)
  region_read read root t (says.Request q) card job is reads of same = absurd (let f : None ≡ Some card = same in cc)
  region_read read root t (says.Where name) card job is reads of same = absurd (let f : None ≡ Some card = same in cc)
  region_read read root t says.ReportSubpools card job is reads of same = absurd (let f : None ≡ Some card = same in cc)
  region_read read root t says.ReportMap card job is reads of same = absurd (let f : None ≡ Some card = same in cc)

module _ (n : ℕ) (bytes : List ℕ) (w : WalkValue) (t : LineEvent) (e : Entry) (is : IsEntry n bytes w t e) where
  by_entry : {X : Type 0} (f : ℕ → List Event → Option JobValue → X) → f n (events_of_line n w t) w.step ≡ f e.number e.events e.after
  by_entry f = ap (λ k. f k (events_of_line n w t) w.step) (sym (number_of n bytes e t is.of_line)) ∙ ap (λ v. f e.number v w.step) (sym is.events) ∙ ap (f e.number e.events) (sym is.after)

  -- the areas that it was granted
  pub granted_so : granted_by n w.read (events_of_line n w t) w.step ≡ granted_at e
  granted_so = by_entry (λ k v o. granted_by k w.read v o) ∙ read_as n bytes e w.read (λ o l. granted_by e.number l e.events e.after) (granted_in e) (λ k. refl) (none_granted_by e.number e.events e.after) (λ job l. refl) (λ job fault. refl) t is.of_line is.read

  -- the pools after it
  pub built_so : (pools : List PoolBuild) → pools_by n w.read (events_of_line n w t) w.step pools ≡ pools_at e pools
  built_so pools =
      by_entry (λ k v o. pools_by k w.read v o pools) ∙ read_as n bytes e w.read (λ o l. pools_by e.number l e.events e.after pools) (λ o k. pools_in e o k pools) (λ k. refl) (none_built_by e.number e.events e.after pools) (λ job l. refl) (λ job fault. refl) t is.of_line is.read

  -- what it did to storage
  pub events_so : (areas : ℕ) → events_by n w.read (events_of_line n w t) w.step areas ≡ events_at e areas
  events_so areas =
      by_entry (λ k v o. events_by k w.read v o areas) ∙ read_as n bytes e w.read (λ o l. events_by e.number l e.events e.after areas) (λ o k. events_in e areas o k) (λ k. refl) (none_done_by e.number e.events e.after areas) (λ job l. refl) (λ job fault. refl) t is.of_line is.read

-- ---- the account

-- what was left when the job step task ended
abbrev over_found : Account → Option Leftovers
over_found a = if a.is_over then Some a.found else None

over_is : (a : Account) → a.is_over ≡ true → over_found a ≡ Some a.found
over_is a e = ap (λ b. if b then Some a.found else None) e

over_none : (a : Account) → a.is_over ≡ false → over_found a ≡ None
over_none a e = ap (λ b. if b then Some a.found else None) e

one_found : (x y : Leftovers) → Some x ≡ Some y → x ≡ y
one_found x y e = cc

over_same : (old new : Account) → KeepsAccount old new → over_found new ≡ over_found old
over_same old new k = at old.is_over refl where
  at : (b : Bool) → old.is_over ≡ b → over_found new ≡ over_found old
  at true e = over_is new (k.is_over ∙ e) ∙ ap (λ x. Some x) (k.found e) ∙ sym (over_is old e)
  at false e = over_none new (k.is_over ∙ e) ∙ sym (over_none old e)

-- what a line changes of it before it is kept
pub line_keeps : (mid after : Account) (step : Option JobValue) (line : List ℕ) (t : LineEvent) (w : WalkValue) → ObservesLine observed mid step line t w after → KeepsAccount mid after
line_keeps mid after step line t w h = record {
  pools = line_stays mid after (λ (a : Account). a.pools) observed (λ job t request refusal left k. k.kept.pools) step line t w h;
  root = line_stays mid after (λ (a : Account). a.root) observed (λ job t request refusal left k. k.kept.root) step line t w h;
  history = line_stays mid after (λ (a : Account). a.history) observed (λ job t request refusal left k. k.kept.history) step line t w h;
  is_over = over;
  found = λ e. one_found after.found mid.found (sym (over_is after (over ∙ e)) ∙ line_stays mid after over_found observed (λ job t request refusal left k. over_same mid after k.kept) step line t w h ∙ over_is mid e);
} where
  over : after.is_over ≡ mid.is_over
  over = line_stays mid after (λ (a : Account). a.is_over) observed (λ job t request refusal left k. k.kept.is_over) step line t w h

pub ledger_kept : (old new : Account) (l : Ledger) → KeepsAccount old new → IsLedger old l → IsLedger new l
ledger_kept old new l k is = record { root = k.root ∙ is.root; grants = k.history ∙ is.grants; pools = k.pools ∙ is.pools; left = at is.left } where
  at : ((old.is_over ≡ false) × (l.left ≡ None)) ⊎ ((old.is_over ≡ true) × (ls : Left) × (l.left ≡ Some ls) × (old.found ≡ summary_of ls)) → ((new.is_over ≡ false) × (l.left ≡ None)) ⊎ ((new.is_over ≡ true) × (ls : Left) × (l.left ≡ Some ls) × (new.found ≡ summary_of ls))
  at (inl (f, none)) = inl (k.is_over ∙ f, none)
  at (inr (t, ls, some, found)) = inr (k.is_over ∙ t, ls, some, k.found t ∙ found)

-- what was found is what is left
pub found_left : (a : Account) (l : Ledger) (step : Option JobValue) → IsLedger a l → IsSettled a step → a.found ≡ summary_of (left_in l step)
found_left a l step is settled = at is.left where
  at : ((a.is_over ≡ false) × (l.left ≡ None)) ⊎ ((a.is_over ≡ true) × (ls : Left) × (l.left ≡ Some ls) × (a.found ≡ summary_of ls)) → a.found ≡ summary_of (left_in l step)
  at (inl (f, none)) =
      settled f ∙ ap (λ g. summary_of (left_of step g a.pools)) is.grants ∙ ap (λ p. summary_of (left_of step l.grants p)) is.pools ∙ ap (λ o. summary_of (unwrap_or o (left_of step l.grants l.pools))) (sym none)
  at (inr (t, ls, some, found)) = found ∙ ap (λ o. summary_of (unwrap_or o (left_of step l.grants l.pools))) (sym some)

-- the account after the entry of a line is that of the ledger after it
pub next_ledger : (a b : Account) (l : Ledger) (e : Entry) (n : ℕ) (read : Line) → IsLedger a l → IsKept a n read e.events e.after b → granted_by n read e.events e.after ≡ granted_at e → ((ps : List PoolBuild) → pools_by n read e.events e.after ps ≡ pools_at e ps) → (ends_task a.root e.events ≡ true → IsSettled a e.before) → IsLedger b (ledger_after l e)
next_ledger a b l e n read is kept granted built settled = at (begun e.events) kept.root kept.history kept.pools kept.is_over where
  ends : ends_task a.root e.events ≡ ends_task l.root e.events
  ends = ap (λ r. ends_task r e.events) is.root

  -- whether the job step task has ended
  left_after : (b_over : b.is_over ≡ (a.is_over || ends_task a.root e.events)) → ((b.is_over ≡ false) × ((in_step l e).left ≡ None)) ⊎ ((b.is_over ≡ true) × (ls : Left) × ((in_step l e).left ≡ Some ls) × (b.found ≡ summary_of ls))
  left_after over = by_end (ends_task l.root e.events) refl where
    by_end : (x : Bool) → ends_task l.root e.events ≡ x → ((b.is_over ≡ false) × ((in_step l e).left ≡ None)) ⊎ ((b.is_over ≡ true) × (ls : Left) × ((in_step l e).left ≡ Some ls) × (b.found ≡ summary_of ls))
    by_end true x =
        inr (over ∙ ap (λ y. a.is_over || y) (ends ∙ x) ∙ or_true a.is_over, left_in l e.before, ap (λ y. if y then Some (left_in l e.before) else l.left) x, kept.found ∙ found_left a l e.before is (settled (ends ∙ x))) where
          or_true : (c : Bool) → (c || true) ≡ true
          or_true true = refl
          or_true false = refl
    by_end false x = by_left is.left where
      left_is : (in_step l e).left ≡ l.left
      left_is = ap (λ y. if y then Some (left_in l e.before) else l.left) x

      over_is_old : b.is_over ≡ a.is_over
      over_is_old = over ∙ ap (λ y. a.is_over || y) (ends ∙ x) ∙ or_false a.is_over

      by_left : ((a.is_over ≡ false) × (l.left ≡ None)) ⊎ ((a.is_over ≡ true) × (ls : Left) × (l.left ≡ Some ls) × (a.found ≡ summary_of ls)) → ((b.is_over ≡ false) × ((in_step l e).left ≡ None)) ⊎ ((b.is_over ≡ true) × (ls : Left) × ((in_step l e).left ≡ Some ls) × (b.found ≡ summary_of ls))
      by_left (inl (f, none)) = inl (over_is_old ∙ f, left_is ∙ none)
      by_left (inr (t, ls, some, found)) = inr (over_is_old ∙ t, ls, left_is ∙ some, kept.found ∙ found)

  at : (o : Option Name) → b.root ≡ unwrap_or (option_map (λ t. Some t) o) a.root → b.history ≡ (if is_some o then [] else a.history ++ granted_by n read e.events e.after) → b.pools ≡ (if is_some o then [] else pools_by n read e.events e.after a.pools) → b.is_over ≡ (not (is_some o) && (a.is_over || ends_task a.root e.events)) → IsLedger b (unwrap_or (option_map new_step o) (in_step l e))
  at (Some t) root history pools over = record { root = root; grants = history; pools = pools; left = inl (over, refl) }
  at None root history pools over = record {
    root = root ∙ is.root;
    grants = history ∙ ap (λ g. g ++ granted_by n read e.events e.after) is.grants ∙ ap (λ g. l.grants ++ g) granted;
    pools = pools ∙ ap (pools_by n read e.events e.after) is.pools ∙ built l.pools;
    left = left_after over;
  }

-- ---- what is written

pub no_leaks_with : (l : Ledger) (e : Entry) → ends_step e ≡ false → leaks_with l e ≡ nothing_left
no_leaks_with l e x = ap (λ b. if b then left_in l e.before else nothing_left) x

pub leaks_left : (l : Ledger) (e : Entry) → ends_step e ≡ true → leaks_with l e ≡ left_in l e.before
leaks_left l e x = ap (λ b. if b then left_in l e.before else nothing_left) x

-- whether something was found
abbrev pub some_found : Leftovers → Bool
some_found f = nat_lt 0 f.areas.count || nat_lt 0 (length f.pools)

module _ (report : Leftovers → List ℕ) (history : List Entry) (e : Entry) (one : List ℕ) where
  -- the text with the report
  abbrev pub reported_text : List ℕ
  reported_text = reported report (leaks_at history e) e one

  by_leak : (b : Bool) → some_leak (leaks_at history e) ≡ b → reported_text ≡ (if b then with_report (report (summary_of (leaks_at history e))) e one else one)
  by_leak b x = ap (λ b. if b then with_report (report (summary_of (leaks_at history e))) e one else one) x

  -- where nothing is left, the text is as it is
  pub no_report : some_leak (leaks_at history e) ≡ false → one ≡ reported_text
  no_report x = sym (by_leak false x)

  module _ (found : Leftovers) (ends : ends_step e ≡ true) (is : found ≡ summary_of (left_in (ledger_from no_step history) e.before)) where
    leaks_are : leaks_at history e ≡ left_in (ledger_from no_step history) e.before
    leaks_are = leaks_left (ledger_from no_step history) e ends

    found_is : report found ≡ report (summary_of (leaks_at history e))
    found_is = ap report is ∙ ap (λ ls. report (summary_of ls)) (sym leaks_are)

    -- whether something is left
    pub some_so : some_found found ≡ some_leak (leaks_at history e)
    some_so = ap some_found is ∙ ap some_leak (sym leaks_are)

    changes : is_some (begun e.events) ≡ true → changes_step e ≡ true
    changes begins = ap (λ b. b && is_some (begun e.events)) ends ∙ begins

    -- where one step ends and another begins, the report is after the first line
    pub report_between : some_found found ≡ true → is_some (begun e.events) ≡ true → after_first_line (report found) one ≡ reported_text
    report_between some begins =
        ap (λ r. after_first_line r one) found_is ∙ ap (λ b. if b then after_first_line (report (summary_of (leaks_at history e))) one else one ++ report (summary_of (leaks_at history e))) (sym (changes begins)) ∙ sym (by_leak true (sym some_so ∙ some))

    -- at the last end it is at the end
    pub report_last : some_found found ≡ true → is_some (begun e.events) ≡ false → one ++ report found ≡ reported_text
    report_last some begins =
        ap (λ r. one ++ r) found_is ∙ ap (λ b. if b then after_first_line (report (summary_of (leaks_at history e))) one else one ++ report (summary_of (leaks_at history e))) (sym (ap (λ b. b && is_some (begun e.events)) ends ∙ begins)) ∙ sym (by_leak true (sym some_so ∙ some))

-- ---- where a step ends and another begins

begun_too : (n : ℕ) (w : WalkValue) (t : LineEvent) → list_any is_step_end (events_of_line n w t) ≡ true → is_some (begun (events_of_line n w t)) ≡ true
begun_too n w events.Nothing h = false_true h
begun_too n w (events.StepBegan None card) h = false_true h
begun_too n w (events.StepBegan (Some abended) card) h = refl
begun_too n w (events.Answered t a) h = false_true h
begun_too n w (events.Faulted fault) h = false_true h

module _ (n : ℕ) (bytes : List ℕ) (w : WalkValue) (e : Entry) (mid after : Account) (sees : Sees mid e.before w.read) where
  pub begins_too : (t : LineEvent) → IsEntry n bytes w t e → list_any is_step_end (events_of_line n w t) ≡ true → is_some (begun e.events) ≡ true
  begins_too t is h = ap (λ x. is_some (begun x)) is.events ∙ begun_too n w t h

  region_settled : IsReadIn e.before bytes w.read → (t : Name) (s : Statement) (card : CardValue) (abended : Bool) (o : Option JobValue) → e.before ≡ o → LineOf (is_first e.before) bytes (line.Statement t s) → region_card t s ≡ Some card
      → Serves machine n o (line.Statement t s) (StepEnded abended ∷ AnswerTo n card.name (Region card) ∷ []) w.step → after ≡ mid → IsSettled after e.before
  region_settled reads t (says.Region below above fill residence) card abended None is of same serves kept = absurd (let f = serves.0 in cc)
  region_settled reads t (says.Request q) card abended None is of same serves kept = none_some same
  region_settled reads t (says.Where name) card abended None is of same serves kept = none_some same
  region_settled reads t says.ReportSubpools card abended None is of same serves kept = none_some same
  region_settled reads t says.ReportMap card abended None is of same serves kept = none_some same
  region_settled reads t s card abended (Some job) is of same serves kept =
      subst (λ (a : Account). IsSettled a e.before) (sym kept) (sees (region_read n bytes e w.read mid.root t s card job is reads of same))

  pub settled_between : (t : LineEvent) → IsEntry n bytes w t e → ObservesLine observed mid e.before bytes t w after → list_any is_step_end (events_of_line n w t) ≡ true → IsSettled after e.before
  settled_between t entry heard h = at t (entry_serves n bytes w e t entry) heard h where
    reads : IsReadIn e.before bytes w.read
    reads = entry.read

    at : (t : LineEvent) → ServesAs (before_it n bytes w e) bytes t w → ObservesLine observed mid e.before bytes t w after → list_any is_step_end (events_of_line n w t) ≡ true → IsSettled after e.before
    at events.Nothing serves k f = false_true f
    at (events.StepBegan None card) serves k f = false_true f
    at (events.Answered t a) serves k f = false_true f
    at (events.Faulted fault) serves k f = false_true f
    at (events.StepBegan (Some abended) card) serves (t, s, of, is, same) f =
        region_settled reads t s card abended e.before refl of is (subst (λ l. Serves machine n e.before l (StepEnded abended ∷ AnswerTo n card.name (Region card) ∷ []) w.step) (one_reading.one_line (is_first e.before) bytes serves.0 (line.Statement t s) serves.1 of) serves.2) same

-- ---- through another consumer

module _ (piece outer : Piece) (before after : Option (List ℕ)) (history : List Entry) (e : Entry) (may : (text : List ℕ) → piece.may history e text → outer.may history e text) (needs : piece.needs e → outer.needs e) where
  pub piece_maps : WritesPiece piece before after history e → WritesPiece outer before after history e
  piece_maps (text, m, a) = (text, may text m, a)

  pub front_maps : WritesFront piece before after history e → WritesFront outer before after history e
  front_maps (text, m, a) = (text, may text m, a)

  pub until_maps : (why : Stop) → WritesUntil piece before after history e why → WritesUntil outer before after history e why
  until_maps stop.Write h = front_maps h
  until_maps stop.Memory h = (needs h.0, h.1)

-- a text that was written to an empty list
pub written_is : (items one : List ℕ) → Appends (Some []) (Some items) one → items ≡ one
written_is items one h = h

-- ---- the last entry

module _ (n : ℕ) (e : Entry) where
  closed_events : (o : Option Bool) → IsEnd n (end.Closed o) e → (e.kind ≡ Closed)
  closed_events o ((outcome, (events, closes, is)), same) = ap (λ (e : Entry). e.kind) is

  pub exhausted_ends : (o : Option Bool) → IsEnd n (end.Exhausted o) e → ends_step e ≡ false
  exhausted_ends o ((l, (said, events, of, takes, is)), same) = ap (λ k. ends_step (record { number = e.number; bytes = e.bytes; kind = k; events = e.events; before = e.before; after = e.after })) (ap (λ (e : Entry). e.kind) is)

  closed_ends : (o : Option Bool) (x : List Event) → IsEnd n (end.Closed o) e → e.events ≡ x → ends_step e ≡ list_any is_step_end x
  closed_ends o x is same = ap (λ k. ends_step (record { number = e.number; bytes = e.bytes; kind = k; events = e.events; before = e.before; after = e.after })) (closed_events o is) ∙ ap (list_any is_step_end) same

  pub none_ends : IsEnd n (end.Closed None) e → ends_step e ≡ false
  none_ends is = closed_ends None _ is is.1

  pub step_ends : (abended : Bool) → IsEnd n (end.Closed (Some abended)) e → ends_step e ≡ true
  step_ends abended is = closed_ends (Some abended) _ is is.1

  pub none_begun : (abended : Bool) → IsEnd n (end.Closed (Some abended)) e → is_some (begun e.events) ≡ false
  none_begun abended is = ap (λ x. is_some (begun x)) is.1

-- ---- what holds a doubleword

pub none_plain : (st : State) (d : ℕ) → get st.held d ≡ None → false ≡ is_plain (get st.held d)
none_plain st d e = ap is_plain (sym e)

pub some_plain : (st : State) (d s : ℕ) → get st.held d ≡ Some (plain s) → true ≡ is_plain (get st.held d)
some_plain st d s e = ap is_plain (sym e)

pub part_plain : (st : State) (d : ℕ) (name : Name) (pool : Pool) → IsSteady st → get st.pools name ≡ Some pool → in_parts pool d ≡ true → false ≡ is_plain (get st.held d)
part_plain st d name pool r is has =
    let found = part_found pool d has in
    ap is_plain (sym ((r.apart.parts name pool found.0 is found.1).held d found.2))

most_end : (r : Regions) → IsBounded r → end_of r ≤ 268435456
most_end r b = let most = b.above in omega (arith, most)

pub high_plain : (st : State) (d : ℕ) → IsSteady st → 268435456 ≤ d → false ≡ is_plain (get st.held d)
high_plain st d r far = at (get st.held d) refl where
  at : (o : Option Holding) → get st.held d ≡ o → false ≡ is_plain o
  at None e = refl
  at (Some h) e = absurd (let near : d < end_of st.regions = r.within d h e in let most = most_end st.regions r.bounded in omega (arith, near, most, far))

pub place_of_doubleword : (a d : ℕ) → a ≡ 8 * d → a / 8 ≡ d
place_of_doubleword a d e = omega (arith, e)

-- one that nobody holds, or a pool, is not held outside pools
pub not_held : (st : State) (d : ℕ) (h : Holder) → IsSteady st → (h ≡ Nobody) ⊎ (h ≡ Outside) ⊎ ((x : Name) × (h ≡ Part x)) → Holds st d h → false ≡ is_plain (get st.held d)
not_held st d h steady (inl e) is = let n = subst (Holds st d) e is in none_plain st d n.0
not_held st d h steady (inr (inl e)) is = let n = subst (Holds st d) e is in none_plain st d n.0
not_held st d h steady (inr (inr (name, e))) is = let p = subst (Holds st d) e is in part_plain st d name p.0 steady p.1 p.2
