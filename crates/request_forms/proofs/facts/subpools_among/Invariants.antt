use Rattle.std.proofs.Common.{◌≡◌, ◌==◌, ℕ, None, slice_index_or}
use Rattle.mvs_model.specs.Finite.{any_below, has}
use Rattle.mvs_model.specs.Storage.{is_one_of}
use Rattle.request_forms.proofs.facts.subpools_among.Given as goal

abbrev pub invariant-loop-entry : goal.invariant-loop-entry
invariant-loop-entry l = (s : ℕ) → is_one_of l.subpools s ≡ any_below (λ n. has (λ r. r == s) (slice_index_or l.entries n None)) l.entry-index
