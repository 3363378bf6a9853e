use Rattle.std.proofs.Common.{◌≡◌, ◌++◌, drop}
use Rattle.std.specs.Prelude.{map}
use Rattle.job_script.specs.Rows.{as_keyword}
use Rattle.language_server.specs.Hovers.{key_blocks}
use Rattle.language_server.proofs.hover.push_keys.Given as goal

abbrev pub invariant-loop-keyword : goal.invariant-loop-keyword
invariant-loop-keyword l =
    l.found.items ++ key_blocks l.key (map as_keyword (drop l.keyword-index l.keywords)) ≡ l.fn.found.items ++ key_blocks l.key (map as_keyword l.keywords)
