use Rattle.std.proofs.Common.{◌≡◌, ◌++◌, ◌+◌, ◌-◌}
use Rattle.language_server.specs.Reports.{runnable_lines}
use Rattle.language_server.proofs.document.Document.push_runnables.Given as goal

abbrev pub invariant-loop-line : goal.invariant-loop-line
invariant-loop-line l =
    l.script.items ++ runnable_lines l.fn.self l.line (l.fn.last + 1 - l.line) ≡ l.fn.script.items ++ runnable_lines l.fn.self 0 (l.fn.last + 1)
