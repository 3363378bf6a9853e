use Rattle.std.proofs.Common.{◌≡◌, ◌++◌, take}
use Rattle.std.specs.List.{flat_map}
use Rattle.mvs_model.specs.Texts.{hex}
use Rattle.page.proofs.change.push_bytes.Given as goal

abbrev pub invariant-loop-byte : goal.invariant-loop-byte
invariant-loop-byte l = l.lines.items ≡ l.initial.lines.items ++ flat_map (hex 2) (take l.byte-index l.bytes)
