use Rattle.std.proofs.Common.{◌≡◌, [], ◌∷◌, length}
use Rattle.std.specs.Option.{is_some}
use Rattle.mvs_model.specs.Reports.{each_below}
use Rattle.request_forms.specs.SubpoolLabels.{entry_owner}
use Rattle.mvs_c.proofs.baseline.numbers_of.Given as goal

abbrev pub invariant-loop-n : goal.invariant-loop-n
invariant-loop-n l = record {
  count : length l.numbers ≡ l.n;
  each : l.numbers ≡ each_below l.n (λ n. is_some (entry_owner l.fn.job.state.owners l.fn.task n) ∷ []);
}
