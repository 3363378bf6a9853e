use Rattle.std.proofs.Common.{◌≡◌, take}
use Rattle.mvs_model.specs.Lines.{ended_text}
use Rattle.shell.proofs.script.SessionScript.text.Given as goal

abbrev pub invariant-loop-line : goal.invariant-loop-line
invariant-loop-line l = l.text.items ≡ ended_text (take l.line-index l.line-items)
