use Rattle.std.proofs.Common.{◌≡◌, ◌++◌, drop}
use Rattle.std.specs.Prelude.{map}
use Rattle.job_script.specs.Rows.{as_keyword}
use Rattle.language_server.specs.Proposals.{keyword_proposals}
use Rattle.language_server.proofs.proposals.Proposals.push_keywords.Given as goal

abbrev pub invariant-loop-keyword : goal.invariant-loop-keyword
invariant-loop-keyword l =
    l.self ++ keyword_proposals l.field l.column (map as_keyword (drop l.keyword-index l.keywords)) ≡ l.fn.self ++ keyword_proposals l.field l.column (map as_keyword l.keywords)
