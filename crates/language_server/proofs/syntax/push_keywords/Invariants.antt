use Rattle.std.proofs.Common.{◌≡◌, ◌++◌, drop}
use Rattle.std.specs.Prelude.{map, string_bytes}
use Rattle.job_script.specs.Rows.{as_keyword}
use Rattle.language_server.specs.Syntax.{items_text, keyword_item}
use Rattle.language_server.proofs.syntax.push_keywords.Given as goal

abbrev pub invariant-loop-keyword : goal.invariant-loop-keyword
invariant-loop-keyword l =
    string_bytes l.text ++ items_text l.first (map keyword_item (map as_keyword (drop l.keyword-index l.keywords)))
    ≡ string_bytes l.fn.text ++ items_text l.is_first (map keyword_item (map as_keyword l.keywords))
