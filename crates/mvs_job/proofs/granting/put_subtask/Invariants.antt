use Rattle.std.proofs.Common.{◌≡◌, ◌≤◌, ◌*◌, length}
use Rattle.mvs_model.specs.Reports.{each_below}
use Rattle.mvs_job.specs.Granting.{attach_facts}
use Rattle.mvs_job.proofs.granting.put_subtask.Given as goal

abbrev pub invariant-loop-n : goal.invariant-loop-n
invariant-loop-n l = record {
  few : length l.facts ≤ 2 * l.n;
  each : l.facts ≡ each_below l.n (λ n. attach_facts l.fn.before l.fn.job l.fn.attaching l.fn.subtask n);
}
