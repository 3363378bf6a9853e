use Rattle.std.proofs.Common.{◌≡◌, take}
use Rattle.mvs_model.specs.Name.{padded}
use Rattle.mvs_model.proofs.name.pad.Given as goal

abbrev pub invariant-loop-i : goal.invariant-loop-i
invariant-loop-i l = l.bytes ≡ padded (take l.i l.text)
