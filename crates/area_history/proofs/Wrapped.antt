-- A reporter around another consumer.
use Rattle.std.proofs.Common.{◌≡◌, ℕ, List, [], ◌∷◌, ◌++◌, Option, Some, None, Bool, true, false, inl, inr, refl, sym, ap, subst, ◌∙◌}
use Rattle.std.specs.Prelude.{◌≢◌, ◌⊎◌, ◌||◌, nat_lt, is_some}
use Rattle.std.specs.List.{list_any}
use Rattle.mvs_model.specs.Job.{JobValue}
use Rattle.mvs_model.proofs.Tests.{true_false}
use Rattle.mvs_job.specs.declared.walk.LineEvent.{LineEvent}
use Rattle.mvs_job.specs.Consuming.{IsEntry}
use Rattle.mvs_job.specs.LineEvents.{WalkValue, events_of_line}
use Rattle.mvs_job.specs.Observing.{Hearing, ObservesLine}
use Rattle.mvs_job.specs.Trace.{Entry}
use Rattle.mvs_job.proofs.Hearing.{line_part, line_stays}
use Rattle.area_history.specs.declared.account.Account.{Account}
use Rattle.area_history.specs.declared.reporter.Reporter.{Reporter}
use Rattle.area_history.specs.Accounts.{IsKept, IsLedger, IsObserved, IsSettled, KeepsAccount, Sees, summary_of}
use Rattle.area_history.specs.Ledgers.{Ledger, ends_step, ends_task, granted_at, granted_by, is_step_end, leaks_at, ledger_after, ledger_from, left_in, no_step, pools_by, some_leak}
use Rattle.area_history.proofs.Ended.{observed, settled_at_end}
use Rattle.area_history.proofs.Reported.{built_so, ends_as, found_left, granted_so, ledger_kept, line_keeps, next_ledger, no_leaks_with, settled_between, some_found, some_so}

module _ {C F : Type 0} (heard : Hearing C) where
  -- what it keeps of a refusal
  abbrev pub wrapped : Hearing (Reporter C F)
  wrapped old job t request refusal left new =
      (new.consumer.ghost_name ≡ old.consumer.ghost_name) × heard old.consumer.now job t request refusal left new.consumer.now × IsObserved old.account job t request refusal new.account × (new.has_leaked ≡ old.has_leaked)

  module _ (mid self : Reporter C F) (step : Option JobValue) (bytes : List ℕ) (t : LineEvent) (w : WalkValue) (h : ObservesLine wrapped mid step bytes t w self) where
    pub name_kept : self.consumer.ghost_name ≡ mid.consumer.ghost_name
    name_kept = line_stays mid self (λ s. s.consumer.ghost_name) wrapped (λ job t request refusal left k. k.0) step bytes t w h

    pub leaked_kept : self.has_leaked ≡ mid.has_leaked
    leaked_kept = line_stays mid self (λ s. s.has_leaked) wrapped (λ job t request refusal left k. k.3) step bytes t w h

    pub consumer_sees : ObservesLine heard mid.consumer.now step bytes t w self.consumer.now
    consumer_sees = line_part mid self (λ s. s.consumer.now) wrapped heard (λ job t request refusal left k. k.1) step bytes t w h

    pub account_sees : ObservesLine observed mid.account step bytes t w self.account
    account_sees = line_part mid self (λ s. s.account) wrapped observed (λ job t request refusal left k. k.2) step bytes t w h

module _ (n : ℕ) (bytes : List ℕ) (w : WalkValue) (t : LineEvent) (e : Entry) (is : IsEntry n bytes w t e) (mid self : Account) (sees : Sees mid e.before w.read) (h : ObservesLine observed mid e.before bytes t w self) where
  keeps : KeepsAccount mid self
  keeps = line_keeps mid self e.before bytes t w h

  -- the areas that the line was granted
  pub granted_is : granted_by n w.read (events_of_line n w t) w.step ≡ granted_at e
  granted_is = granted_so n bytes w t e is

  -- the ledger after it
  pub line_ledger : (l : Ledger) (new : Account) → IsLedger mid l → IsKept self n w.read (events_of_line n w t) w.step new → IsLedger new (ledger_after l e)
  line_ledger l new ledger kept =
      next_ledger self new l e n w.read (ledger_kept mid self l keeps ledger)
      (subst (λ v. IsKept self n w.read v e.after new) (sym is.events) (subst (λ o. IsKept self n w.read (events_of_line n w t) o new) (sym is.after) kept))
      (ap (λ v. granted_by n w.read v e.after) is.events ∙ ap (granted_by n w.read (events_of_line n w t)) is.after ∙ granted_is)
      (λ ps. ap (λ v. pools_by n w.read v e.after ps) is.events ∙ ap (λ o. pools_by n w.read (events_of_line n w t) o ps) is.after ∙ built_so n bytes w t e is ps)
      (λ ends. settled_at_end n bytes w e mid self sees t is h (ap (λ r. ends_task r e.events) (sym keeps.root) ∙ ends))

  -- what was found where a step ends and another begins
  pub found_between : (history : List Entry) (new : Account) → IsLedger mid (ledger_from no_step history) → new.found ≡ self.found → list_any is_step_end (events_of_line n w t) ≡ true → new.found ≡ summary_of (left_in (ledger_from no_step history) e.before)
  found_between history new ledger same ends = same ∙ found_left self (ledger_from no_step history) e.before (ledger_kept mid self (ledger_from no_step history) keeps ledger) (settled_between n bytes w e mid self sees t is h ends)

  step_ends : (b : Bool) → b ≡ list_any is_step_end (events_of_line n w t) → ends_step e ≡ b
  step_ends b same = ends_as n bytes e w t is ∙ sym same

  -- nothing is reported: no step ends, or nothing is left
  pub none_ends : (history : List Entry) (b : Bool) → b ≡ list_any is_step_end (events_of_line n w t) → b ≡ false → some_leak (leaks_at history e) ≡ false
  none_ends history b same off = ap some_leak (no_leaks_with (ledger_from no_step history) e (step_ends b same ∙ off))

  pub none_left : (history : List Entry) (new : Account) (one : List ℕ) (b found : Bool) → IsLedger mid (ledger_from no_step history) → new.found ≡ self.found → b ≡ list_any is_step_end (events_of_line n w t) → found ≡ some_found new.found → found ≡ false → some_leak (leaks_at history e) ≡ false
  none_left history new one b found ledger same ends counts off = by_end b refl where
    by_end : (x : Bool) → b ≡ x → some_leak (leaks_at history e) ≡ false
    by_end false x = none_ends history b ends x
    by_end true x =
        sym (some_so (λ _. []) history e one new.found (step_ends b ends ∙ x) (found_between history new ledger same (sym ends ∙ x))) ∙ sym counts ∙ off
