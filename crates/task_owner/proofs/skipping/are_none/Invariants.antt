use Rattle.std.proofs.Common.{◌≡◌, ◌&&◌, drop, not}
use Rattle.std.specs.Prelude.{is_some}
use Rattle.std.specs.List.{list_all}
use Rattle.task_owner.proofs.skipping.are_none.Given as goal

abbrev pub invariant-loop-entry : goal.invariant-loop-entry
invariant-loop-entry g l = (l.none && list_all (λ s. not (is_some s)) (drop l.entry-index l.entries)) ≡ list_all (λ s. not (is_some s)) l.entries
