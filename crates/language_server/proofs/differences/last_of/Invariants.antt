use Rattle.std.proofs.Common.{◌≡◌, drop}
use Rattle.std.specs.Prelude.{codes}
use Rattle.expected_answers.specs.ExpectedAnswers.{last_or}
use Rattle.language_server.specs.Differences.{step_ends}
use Rattle.language_server.proofs.differences.last_of.Given as goal

abbrev pub invariant-loop-output : goal.invariant-loop-output
invariant-loop-output l = last_or l.last (step_ends (drop l.output-index l.outputs)) ≡ last_or (codes "nothing") (step_ends l.outputs)
