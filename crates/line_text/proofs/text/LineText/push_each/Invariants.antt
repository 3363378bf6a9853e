use Rattle.std.proofs.Common.{◌≡◌, ◌+◌, ◌*◌, ◌++◌, length, take}
use Rattle.std.specs.List.{flat_map}
use Rattle.mvs_model.specs.Texts.{hex}
use Rattle.line_text.proofs.text.LineText.push_each.Given as goal

abbrev pub invariant-loop-byte : goal.invariant-loop-byte
invariant-loop-byte l = record {
  text : l.self ≡ l.initial.self ++ flat_map (hex 2) (take l.byte-index l.bytes);
  len : length l.self ≡ length l.initial.self + 2 * l.byte-index;
}
