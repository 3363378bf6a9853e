use Rattle.std.proofs.Common.{◌≡◌, ◌++◌, drop}
use Rattle.language_server.specs.Symbols.{symbols_from}
use Rattle.language_server.proofs.document.Document.symbols_among.Given as goal

abbrev pub invariant-loop-name : goal.invariant-loop-name
invariant-loop-name l = l.symbols.items ++ symbols_from l.fn.self.text l.names (drop l.name-index l.names) ≡ symbols_from l.fn.self.text l.names l.names
