use Rattle.std.proofs.Common.{◌≡◌, ◌++◌, length}
use Rattle.mvs_model.specs.Lines.{lines_of}
use Rattle.language_server.specs.Fixes.{leak_fixes}
use Rattle.language_server.proofs.document.Document.push_releases.Given as goal

abbrev pub invariant-lines : goal.invariant-lines
invariant-lines l =
    l.actions.items ++ leak_fixes l.self.text l.first l.last (lines_of l.rest) ≡ l.initial.actions.items ++ leak_fixes l.self.text l.first l.last (lines_of l.self.leaks)

abbrev pub decreases-lines : goal.decreases-lines
decreases-lines l = length l.rest
