use Rattle.std.proofs.Common.{◌≡◌, ◌++◌, length}
use Rattle.std.specs.Prelude.{string_bytes}
use Rattle.mvs_model.specs.Lines.{lines_of}
use Rattle.language_server.specs.Explanations.{explanation_in, explanation_of}
use Rattle.language_server.specs.Hovers.{after_feeds}
use Rattle.language_server.proofs.explanations.push_explanation.Given as goal

abbrev pub invariant-lines : goal.invariant-lines
invariant-lines l = string_bytes l.text ++ after_feeds (explanation_in (lines_of l.rest)) ≡ string_bytes l.initial.text ++ after_feeds (explanation_of l.others)

abbrev pub decreases-lines : goal.decreases-lines
decreases-lines l = length l.rest
