-- A run is looked for at the address that a number is, in the machine of the step that runs.
use Rattle.std.proofs.Common.{rules, ◌≡◌, ℕ, MatchOption, None, subst}
use Rattle.mvs_c.specs.Held.{IsHeldEnd, IsHeldRun}
use Rattle.mvs_c.proofs.held.find_held.Goals as goal

pub returns-clause-found : goal.returns-clause-found
returns-clause-found c = record {
  low = λ small. subst (λ (a : ℕ). MatchOption c.args.held.now.session.walk.step (c.held_run.result ≡ None) (λ job. MatchOption c.held_run.result (IsHeldEnd job.state a) (IsHeldRun job.state a))) c.in_ok-from.ensures.1
      (rw (c.in_ok-job.ensures) (rw (c.step.ensures.state) at (rw (c.machine.ensures) at c.held_run.ensures)));
  high = λ big. search rules;
}
