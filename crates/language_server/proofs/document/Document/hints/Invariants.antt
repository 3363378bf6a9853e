use Rattle.std.proofs.Common.{◌≡◌, ◌++◌, drop}
use Rattle.language_server.specs.Hints.{hints_from}
use Rattle.language_server.specs.Spans.{line_end}
use Rattle.language_server.proofs.document.Document.hints.Given as goal

abbrev pub invariant-loop-line : goal.invariant-loop-line
invariant-loop-line l =
    l.hints.items ++ hints_from (line_end l.fn.self.text) l.line l.fn.first l.fn.last (drop l.line l.fn.self.outputs)
    ≡ hints_from (line_end l.fn.self.text) 0 l.fn.first l.fn.last l.fn.self.outputs
