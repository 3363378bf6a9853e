use Rattle.std.proofs.Common.{◌≡◌, ◌≤◌, ◌+◌, ◌*◌, ◌-◌, ◌++◌, length, take}
use Rattle.std.specs.List.{flat_map}
use Rattle.mvs_model.specs.Texts.{hex}
use Rattle.line_text.proofs.text.LineText.push_bytes.Given as goal

abbrev pub invariant-loop-done : goal.invariant-loop-done
invariant-loop-done l = record {
  within : l.done ≤ length l.bytes;
  text : l.self ≡ l.initial.self ++ flat_map (hex 2) (take l.done l.bytes);
  len : length l.self ≡ length l.initial.self + 2 * l.done;
}

abbrev pub decreases-loop-done : goal.decreases-loop-done
decreases-loop-done l = length l.bytes - l.done
