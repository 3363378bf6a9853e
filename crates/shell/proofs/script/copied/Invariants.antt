use Rattle.std.proofs.Common.{◌≡◌, length, take}
use Rattle.shell.proofs.script.copied.Given as goal

abbrev pub invariant-loop-byte : goal.invariant-loop-byte
invariant-loop-byte l = record {
  all : l.copy ≡ take l.byte-index l.line;
  counted : length l.copy ≡ l.byte-index;
}
