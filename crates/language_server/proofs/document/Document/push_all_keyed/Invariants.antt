use Rattle.std.proofs.Common.{◌≡◌, ◌++◌, drop}
use Rattle.std.specs.Prelude.{map}
use Rattle.job_script.specs.Operations.{operation_text}
use Rattle.job_script.specs.Rows.{as_keyword}
use Rattle.language_server.specs.Proposals.{keyed_proposals}
use Rattle.language_server.proofs.document.Document.push_all_keyed.Given as goal

abbrev pub invariant-loop-keyword : goal.invariant-loop-keyword
invariant-loop-keyword l =
    l.proposals ++ keyed_proposals l.self l.line (operation_text l.operation) l.key (map as_keyword (drop l.keyword-index l.keywords))
    ≡ l.fn.proposals ++ keyed_proposals l.self l.line (operation_text l.operation) l.key (map as_keyword l.keywords)
