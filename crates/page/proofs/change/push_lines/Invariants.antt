use Rattle.std.proofs.Common.{◌≡◌, ◌++◌, take}
use Rattle.std.specs.List.{flat_map}
use Rattle.page.specs.Lines.{change_line}
use Rattle.page.proofs.change.push_lines.Given as goal

abbrev pub invariant-loop-change : goal.invariant-loop-change
invariant-loop-change l = l.lines.items ≡ l.initial.lines.items ++ flat_map (change_line l.walk.step) (take l.change-index l.changes)
