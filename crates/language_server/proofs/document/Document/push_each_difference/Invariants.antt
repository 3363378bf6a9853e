use Rattle.std.proofs.Common.{◌≡◌, ◌++◌, ◌-◌}
use Rattle.language_server.specs.Differences.{differences_from, line_count}
use Rattle.language_server.proofs.document.Document.push_each_difference.Given as goal

abbrev pub invariant-loop-number : goal.invariant-loop-number
invariant-loop-number l =
    l.notes.items ++ differences_from l.self l.number (line_count l.self.text - l.number) ≡ l.fn.notes.items ++ differences_from l.self 0 (line_count l.self.text)
