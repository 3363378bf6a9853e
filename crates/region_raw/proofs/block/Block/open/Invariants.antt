use Rattle.std.proofs.Common.{◌≡◌, replicate}
use Rattle.region_raw.specs.Rows.{written}
use Rattle.region_raw.proofs.block.Block.open.Given as goal

abbrev pub invariant-loop-i : goal.invariant-loop-i
invariant-loop-i l = record {
  place : l.self-inside.bytes.at ≡ l.initial.self-inside.bytes.at;
  start : l.self-inside.start ≡ l.initial.self-inside.start;
  right : l.self-inside.right ≡ l.initial.self-inside.right;
  len : l.self-inside.len ≡ l.initial.self-inside.len;
  bytes : l.self-inside.bytes.bytes ≡ written l.initial.self-inside.bytes.bytes l.at l.i (replicate l.i l.fill);
}
