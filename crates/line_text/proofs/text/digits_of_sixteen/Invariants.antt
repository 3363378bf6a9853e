use Rattle.std.proofs.Common.{◌≡◌, ◌*◌, length, take}
use Rattle.std.specs.List.{flat_map}
use Rattle.mvs_model.specs.Texts.{hex}
use Rattle.line_text.proofs.text.digits_of_sixteen.Given as goal

abbrev pub invariant-loop-i : goal.invariant-loop-i
invariant-loop-i l = record {
  text : take (2 * l.i) l.digits ≡ flat_map (hex 2) (take l.i l.bytes);
  len : length l.digits ≡ 32;
}
