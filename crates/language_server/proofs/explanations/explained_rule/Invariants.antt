use Rattle.std.proofs.Common.{◌≡◌, length}
use Rattle.mvs_model.specs.Lines.{lines_of}
use Rattle.language_server.specs.Explanations.{explanation_in, explanation_of, first_rule}
use Rattle.language_server.proofs.explanations.explained_rule.Given as goal

abbrev pub invariant-lines : goal.invariant-lines
invariant-lines l = first_rule (explanation_in (lines_of l.rest)) ≡ first_rule (explanation_of l.others)

abbrev pub decreases-lines : goal.decreases-lines
decreases-lines l = length l.rest
