use Rattle.std.proofs.Common.{◌≡◌, ℕ, ◌<◌, ◌≤◌}
use Rattle.request_forms.specs.Reports.{page_holder}
use Rattle.request_forms.proofs.report.run_end.Given as goal

abbrev pub invariant-loop-next : goal.invariant-loop-next
invariant-loop-next l = (p : ℕ) → l.page ≤ p → p < l.next → page_holder l.store.storage p ≡ page_holder l.store.storage l.page
