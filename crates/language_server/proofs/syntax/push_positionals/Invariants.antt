use Rattle.std.proofs.Common.{◌≡◌, ◌++◌, drop, true}
use Rattle.std.specs.Prelude.{map, string_bytes}
use Rattle.job_script.specs.Rows.{as_positional}
use Rattle.language_server.specs.Syntax.{items_text, positional_item}
use Rattle.language_server.proofs.syntax.push_positionals.Given as goal

abbrev pub invariant-loop-operand : goal.invariant-loop-operand
invariant-loop-operand l =
    string_bytes l.text ++ items_text l.is_first (map positional_item (map as_positional (drop l.operand-index l.operands)))
    ≡ string_bytes l.fn.text ++ items_text true (map positional_item (map as_positional l.operands))
