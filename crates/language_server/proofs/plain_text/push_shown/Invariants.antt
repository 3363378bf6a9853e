use Rattle.std.proofs.Common.{◌≡◌, ◌++◌, drop}
use Rattle.std.specs.Prelude.{string_bytes}
use Rattle.expected_answers.specs.Reports.{shown}
use Rattle.language_server.proofs.plain_text.push_shown.Given as goal

abbrev pub invariant-loop-byte : goal.invariant-loop-byte
invariant-loop-byte l = string_bytes l.text ++ shown (drop l.byte-index l.bytes) ≡ string_bytes l.fn.text ++ shown l.bytes
