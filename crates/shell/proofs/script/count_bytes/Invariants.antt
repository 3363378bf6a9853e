use Rattle.std.proofs.Common.{◌≡◌, length, take}
use Rattle.mvs_model.specs.Lines.{ended_text}
use Rattle.shell.proofs.script.count_bytes.Given as goal

abbrev pub invariant-loop-line : goal.invariant-loop-line
invariant-loop-line l = l.bytes ≡ length (ended_text (take l.line-index l.lines))
