use Rattle.std.proofs.Common.{◌≡◌, ◌≤◌, ◌*◌, length}
use Rattle.mvs_model.specs.Reports.{each_below}
use Rattle.mvs_c.specs.Effects.{attach_effects}
use Rattle.mvs_c.proofs.effects.push_subtask.Given as goal

abbrev pub invariant-loop-n : goal.invariant-loop-n
invariant-loop-n l = record {
  few : length l.effects ≤ 2 * l.n;
  each : l.effects ≡ each_below l.n (λ n. attach_effects l.fn.before l.fn.job l.fn.attaching l.fn.subtask n);
}
