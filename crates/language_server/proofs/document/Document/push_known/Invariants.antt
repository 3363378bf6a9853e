use Rattle.std.proofs.Common.{◌≡◌, ◌++◌, drop}
use Rattle.std.specs.Prelude.{flat_map}
use Rattle.language_server.specs.Proposals.{known_proposal, known_proposals}
use Rattle.language_server.proofs.document.Document.push_known.Given as goal

abbrev pub invariant-loop-name : goal.invariant-loop-name
invariant-loop-name l =
    l.proposals ++ flat_map (known_proposal l.self l.names l.moment l.kind) (drop l.name-index l.names) ≡ l.fn.proposals ++ known_proposals l.self l.names l.moment l.kind
