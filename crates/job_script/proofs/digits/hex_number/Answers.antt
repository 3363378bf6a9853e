use Rattle.std.proofs.Common.{ℕ, ◌<◌, ◌≤◌, ◌^◌, ◌∙◌, arith}
use Rattle.std.proofs.Math.Nat.{pow-le-pow_right}
use Rattle.std.proofs.lemmas.List.{drop_all}
use Rattle.mvs_model.proofs.ReadingLoops.{hex_counted_all}
use Rattle.job_script.proofs.digits.hex_number.Goals as goal

-- seven digits write a number below 2 to the 28th
below_seven_digits : (i : ℕ) → i < 8 → 16 ^ i ≤ 268435456
below_seven_digits i short = let le : i ≤ 7 = omega arith in pow-le-pow_right (omega arith) {i = i} {j = 7} le

pub overflow_mul-value : goal.overflow_mul-value
overflow_mul-value c = let most : 16 ^ c.loop-byte.byte-index ≤ 268435456 = below_seven_digits c.loop-byte.byte-index (omega arith) in omega arith

pub overflow_add-value : goal.overflow_add-value
overflow_add-value c = let most : 16 ^ c.loop-byte.byte-index ≤ 268435456 = below_seven_digits c.loop-byte.byte-index (omega arith) in omega arith

pub returns-clause-value : goal.returns-clause-value
returns-clause-value c =
    let counted = rw (drop_all c.loop-byte.byte-index c.args.text.now c.loop-byte-test.false) at c.loop-byte.invariant.value in
    counted ∙ hex_counted_all c.args.text.now
