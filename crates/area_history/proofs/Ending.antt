-- The last entry of a trace.
use Rattle.std.proofs.Common.{◌≡◌, ℕ, List, [], ◌∷◌, ◌++◌, append-nil, Option, Some, None, Bool, true, false, inl, inr, refl, sym, ap, subst, ◌∙◌}
use Rattle.std.specs.Prelude.{◌⊎◌, ◌&&◌, is_some, unwrap_or, option_map, if◌then◌else◌}
use Rattle.mvs_model.specs.declared.outcome.Outcome.{Outcome}
use Rattle.mvs_model.specs.Answers.{Event}
use Rattle.mvs_model.specs.declared.name.Name.{Name}
use Rattle.mvs_model.specs.Job.{JobValue}
use Rattle.mvs_model.proofs.Tests.{false_true, true_false}
use Rattle.mvs_job.specs.declared.consumer.End.{End}
use Rattle.mvs_job.specs.declared.consumer.End.TheVariants as end
use Rattle.mvs_job.specs.Consuming.{EndsIn, IsEnd}
use Rattle.mvs_job.specs.LineEvents.{WalkValue}
use Rattle.mvs_job.specs.Trace.{Closed, Entry, Executed, Exhausted, Faulty, Kind}
use Rattle.area_history.specs.declared.account.Account.{Account}
use Rattle.area_history.specs.declared.grant.AreaGrant.{AreaGrant}
use Rattle.area_history.specs.declared.pools.PoolBuild.{PoolBuild}
use Rattle.area_history.specs.declared.account.Leftovers.{Leftovers}
use Rattle.area_history.specs.Accounts.{IsLedger, IsSettled, KeepsAccount, closes_step, summary_of}
use Rattle.area_history.specs.Ledgers.{Ledger, Left, begun, ends_step, ends_task, granted_at, granted_in, in_step, leaks_at, ledger_after, ledger_from, left_in, new_step, no_step, pools_at, pools_in, some_leak}
use Rattle.area_history.specs.Reporting.{after_first_line, changes_step, reported, with_report}
use Rattle.area_history.proofs.Reported.{exhausted_ends, found_left, ledger_kept, no_leaks_with, none_ends, reported_text, step_ends}

module _ (n : ℕ) (e : Entry) where
  -- it begins no step
  pub none_begun : (how : End) → IsEnd n how e → begun e.events ≡ None
  none_begun (end.Closed None) is = ap begun is.1
  none_begun (end.Closed (Some abended)) is = ap begun is.1
  none_begun (end.Exhausted None) is = ap begun is.1
  none_begun (end.Exhausted (Some abended)) is = ap begun is.1

  none_changed : (how : End) → IsEnd n how e → changes_step e ≡ false
  none_changed how is = ap (λ o. ends_step e && is_some o) (none_begun how is) ∙ at (ends_step e) where
    at : (b : Bool) → (b && false) ≡ false
    at true = refl
    at false = refl

  -- it ends no task
  none_ended : (how : End) (root : Option Name) → IsEnd n how e → ends_task root e.events ≡ false
  none_ended (end.Closed None) root is = ap (ends_task root) is.1
  none_ended (end.Closed (Some abended)) root is = ap (ends_task root) is.1
  none_ended (end.Exhausted None) root is = ap (ends_task root) is.1
  none_ended (end.Exhausted (Some abended)) root is = ap (ends_task root) is.1

  closed_grants : (o : Option JobValue) → e.kind ≡ Closed → granted_in e o e.kind ≡ []
  closed_grants None kind = refl
  closed_grants (Some job) kind = ap (granted_in e (Some job)) kind

  -- it is granted no area
  pub none_granted : (how : End) → IsEnd n how e → granted_at e ≡ []
  none_granted (end.Closed o) ((outcome, (events, closes, is)), same) = closed_grants e.before (ap (λ (e : Entry). e.kind) is)
  none_granted (end.Exhausted o) ((line, (said, events, of, takes, is)), same) = at e.before where
    at : (o : Option JobValue) → granted_in e o e.kind ≡ []
    at None = refl
    at (Some job) = ap (granted_in e (Some job)) (ap (λ (e : Entry). e.kind) is)

  closed_pools : (o : Option JobValue) (pools : List PoolBuild) → e.kind ≡ Closed → pools_in e o e.kind pools ≡ pools
  closed_pools None pools kind = refl
  closed_pools (Some job) pools kind = ap (λ k. pools_in e (Some job) k pools) kind

  -- it builds no pool
  pub none_built : (how : End) (pools : List PoolBuild) → IsEnd n how e → pools_at e pools ≡ pools
  none_built (end.Closed o) pools ((outcome, (events, closes, is)), same) = closed_pools e.before pools (ap (λ (e : Entry). e.kind) is)
  none_built (end.Exhausted o) pools ((line, (said, events, of, takes, is)), same) = at e.before where
    at : (o : Option JobValue) → pools_in e o e.kind pools ≡ pools
    at None = refl
    at (Some job) = ap (λ k. pools_in e (Some job) k pools) (ap (λ (e : Entry). e.kind) is)

  -- the account is that of the ledger after it
  pub end_ledger : (how : End) (a : Account) (l : Ledger) → IsEnd n how e → IsLedger a l → IsLedger a (ledger_after l e)
  end_ledger how a l is ledger = subst (λ o. IsLedger a (unwrap_or (option_map new_step o) (in_step l e))) (sym (none_begun how is)) (record {
    root = ledger.root;
    grants = ledger.grants ∙ sym (append-nil l.grants) ∙ ap (λ g. l.grants ++ g) (sym (none_granted how is));
    pools = ledger.pools ∙ sym (none_built how l.pools is);
    left = at ledger.left;
  }) where
    left_is : (in_step l e).left ≡ l.left
    left_is = ap (λ b. if b then Some (left_in l e.before) else l.left) (none_ended how l.root is)

    at : ((a.is_over ≡ false) × (l.left ≡ None)) ⊎ ((a.is_over ≡ true) × (ls : Left) × (l.left ≡ Some ls) × (a.found ≡ summary_of ls)) → ((a.is_over ≡ false) × ((in_step l e).left ≡ None)) ⊎ ((a.is_over ≡ true) × (ls : Left) × ((in_step l e).left ≡ Some ls) × (a.found ≡ summary_of ls))
    at (inl (f, none)) = inl (f, left_is ∙ none)
    at (inr (t, ls, some, found)) = inr (t, ls, left_is ∙ some, found)

  -- where no step ends with it nothing is left
  pub quiet_end : (how : End) (history : List Entry) → closes_step how ≡ false → IsEnd n how e → some_leak (leaks_at history e) ≡ false
  quiet_end (end.Closed None) history off is = ap some_leak (no_leaks_with (ledger_from no_step history) e (none_ends n e is))
  quiet_end (end.Closed (Some abended)) history off is = true_false off
  quiet_end (end.Exhausted o) history off is = ap some_leak (no_leaks_with (ledger_from no_step history) e (exhausted_ends n e o is))

  -- where one does
  pub stops_with : (how : End) → closes_step how ≡ true → IsEnd n how e → ends_step e ≡ true
  stops_with (end.Closed None) on is = false_true on
  stops_with (end.Closed (Some abended)) on is = step_ends n e abended is
  stops_with (end.Exhausted o) on is = false_true on

  ends_here : (how : End) (w : WalkValue) → closes_step how ≡ true → EndsIn w how e → e.before ≡ w.step
  ends_here (end.Closed o) w on step = step
  ends_here (end.Exhausted o) w on step = false_true on

  -- its text begins as that of another consumer
  pub last_longer : (how : End) (report : Leftovers → List ℕ) (history : List Entry) (one : List ℕ) → IsEnd n how e → (more : List ℕ) × (reported_text report history e one ≡ one ++ more)
  last_longer how report history one is = at (some_leak (leaks_at history e)) where
    at : (b : Bool) → (more : List ℕ) × ((if b then with_report (report (summary_of (leaks_at history e))) e one else one) ≡ one ++ more)
    at true = (report (summary_of (leaks_at history e)), ap (λ b. if b then after_first_line (report (summary_of (leaks_at history e))) one else one ++ report (summary_of (leaks_at history e))) (none_changed how is))
    at false = ([], sym (append-nil one))

  -- what was found at the end
  pub found_last : (how : End) (w : WalkValue) (history : List Entry) (old new : Account) → closes_step how ≡ true → EndsIn w how e → IsLedger old (ledger_from no_step history) → KeepsAccount old new → IsSettled new w.step → new.found ≡ summary_of (left_in (ledger_from no_step history) e.before)
  found_last how w history old new on step ledger kept settled = found_left new (ledger_from no_step history) e.before (ledger_kept old new (ledger_from no_step history) kept ledger) (subst (IsSettled new) (sym (ends_here how w on step)) settled)
