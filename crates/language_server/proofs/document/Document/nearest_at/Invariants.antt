use Rattle.std.proofs.Common.{◌≡◌, drop}
use Rattle.language_server.specs.Fixes.{nearest_at, nearest_from}
use Rattle.language_server.proofs.document.Document.nearest_at.Given as goal

abbrev pub invariant-loop-name : goal.invariant-loop-name
invariant-loop-name l =
    nearest_from l.self l.search.names.now l.search.moment l.search.kind l.search.word.now l.best (drop l.name-index l.search.names.now)
    ≡ nearest_at l.self l.search.names.now l.search.moment l.search.kind l.search.word.now
