use Rattle.std.proofs.Common.{◌≡◌, map, Some}
use Rattle.std.proofs.Math.Seq.{paste}
use Rattle.region_raw.proofs.block.Block.open_with.Given as goal

abbrev pub invariant-loop-i : goal.invariant-loop-i
invariant-loop-i l = record {
  place : l.self-inside.bytes.at ≡ l.initial.self-inside.bytes.at;
  start : l.self-inside.start ≡ l.initial.self-inside.start;
  right : l.self-inside.right ≡ l.initial.self-inside.right;
  len : l.self-inside.len ≡ l.initial.self-inside.len;
  bytes : l.self-inside.bytes.bytes ≡ paste l.initial.self-inside.bytes.bytes l.at (map Some l.bytes) l.i;
}
