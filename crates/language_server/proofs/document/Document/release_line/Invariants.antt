use Rattle.std.proofs.Common.{◌≡◌, ◌+◌, ◌-◌, ◌<◌, length}
use Rattle.language_server.specs.Fixes.{release_line}
use Rattle.language_server.specs.Spans.{line_starts}
use Rattle.language_server.proofs.document.Document.release_line.Given as goal

abbrev pub invariant-lines : goal.invariant-lines
invariant-lines l = record {
  line : release_line l.self.text l.task l.last l.at (length (line_starts l.self.text) - l.at) ≡ release_line l.self.text l.task l.line (l.line + 1) (length (line_starts l.self.text) - (l.line + 1));
  before : l.last < l.at;
}

abbrev pub decreases-lines : goal.decreases-lines
decreases-lines l = l.count - l.at
