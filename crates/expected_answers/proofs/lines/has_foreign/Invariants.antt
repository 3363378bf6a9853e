use Rattle.std.proofs.Common.{◌≡◌, ◌||◌, nat_lt, take}
use Rattle.std.specs.List.{list_any}
use Rattle.expected_answers.proofs.lines.has_foreign.Given as goal

abbrev pub invariant-loop-byte : goal.invariant-loop-byte
invariant-loop-byte l = l.found ≡ list_any (λ b. nat_lt b 32 || nat_lt 126 b) (take l.byte-index l.line)
