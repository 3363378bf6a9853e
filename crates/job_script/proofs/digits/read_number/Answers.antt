use Rattle.std.proofs.Common.{◌≤◌, length, arith, sym, ◌∙◌}
use Rattle.std.proofs.lemmas.Grind.{common_steps}
use Rattle.std.proofs.lemmas.List.{drop_all}
use Rattle.mvs_model.proofs.ReadingLoops.{counted_all}
use Rattle.job_script.proofs.SameNumbers.{digits_number}
use Rattle.job_script.proofs.digits.read_number.Goals as goal

pub returns : goal.returns
returns c =
    let text = c.args.text.now in
    let some : 1 ≤ length text = grind (arith, common_steps) in
    let digits = rw (drop_all c.loop-byte.byte-index text c.loop-byte-test.false) at c.loop-byte.invariant.digits in
    let counted = rw (drop_all c.loop-byte.byte-index text c.loop-byte-test.false) at c.loop-byte.invariant.value in
    (sym (digits_number text some) ∙ sym digits, counted ∙ counted_all text)
