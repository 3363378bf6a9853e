use Rattle.std.proofs.Common.{◌≡◌, ◌++◌, drop}
use Rattle.language_server.specs.Refusals.{refused_from}
use Rattle.language_server.proofs.refusals.refused_lines.Given as goal

abbrev pub invariant-loop-line : goal.invariant-loop-line
invariant-loop-line l = l.lines.items ++ refused_from l.line (drop l.line l.outputs) ≡ refused_from 0 l.outputs
