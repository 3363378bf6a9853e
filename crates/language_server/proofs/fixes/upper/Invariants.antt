use Rattle.std.proofs.Common.{◌≡◌, ◌++◌, drop}
use Rattle.std.specs.Prelude.{map}
use Rattle.language_server.specs.Fixes.{upper_byte}
use Rattle.language_server.proofs.fixes.upper.Given as goal

abbrev pub invariant-loop-byte : goal.invariant-loop-byte
invariant-loop-byte l = l.upper.items ++ map upper_byte (drop l.byte-index l.word) ≡ map upper_byte l.word
