use Rattle.std.proofs.Common.{◌≡◌, ◌++◌, drop}
use Rattle.language_server.specs.Actions.{writings_from}
use Rattle.language_server.proofs.document.Document.add_writings.Given as goal

abbrev pub invariant-loop-line : goal.invariant-loop-line
invariant-loop-line l =
    l.actions.items ++ writings_from l.fn.self.text l.line l.fn.first l.fn.last (drop l.line l.fn.self.outputs)
    ≡ l.initial.actions.items ++ writings_from l.fn.self.text 0 l.fn.first l.fn.last l.fn.self.outputs
