-- A run is looked for at the address that a number is.
use Rattle.std.proofs.Common.{rules, ◌≡◌, ℕ, MatchOption, None, subst}
use Rattle.request_forms.specs.Reports.{IsMapEnd, IsMapRun}
use Rattle.mvs_c.proofs.access.find_run.Goals as goal

-- src/access.rt:133:1
pub returns : goal.returns
returns c = record {
  low = λ small. subst (λ (a : ℕ). MatchOption c.args.held.now.session.walk.step (c.map_run.result ≡ None) (λ job. MatchOption c.map_run.result (IsMapEnd job.state a) (IsMapRun job.state a))) c.in_ok-from.ensures.1
      (rw (c.in_ok-job.ensures) (rw (c.step.ensures.state) at c.map_run.ensures));
  high = λ big. search rules;
}
