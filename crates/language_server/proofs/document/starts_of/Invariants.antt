use Rattle.std.proofs.Common.{◌≡◌, ◌++◌, ◌∷◌, drop}
use Rattle.language_server.specs.Spans.{starts_from}
use Rattle.language_server.proofs.document.starts_of.Given as goal

abbrev pub invariant-loop-at : goal.invariant-loop-at
invariant-loop-at l = l.starts.items ++ starts_from l.at (drop l.at l.text) ≡ 0 ∷ starts_from 0 l.text
