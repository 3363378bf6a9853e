use Rattle.std.proofs.Common.{◌≡◌, ◌≤◌, ◌++◌, drop, length}
use Rattle.shell.specs.Cleaning.{cleaned}
use Rattle.shell.specs.declared.cleaning.CleaningState.TheVariants.{Text}
use Rattle.shell.proofs.cleaning.clean.Given as goal

abbrev pub invariant-loop-byte : goal.invariant-loop-byte
invariant-loop-byte l = record {
  all : l.left ++ cleaned l.place (drop l.byte-index l.line) ≡ cleaned Text l.line;
  short : length l.left ≤ l.byte-index;
}
