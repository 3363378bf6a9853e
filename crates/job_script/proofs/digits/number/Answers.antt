use Rattle.std.proofs.Common.{◌∙◌}
use Rattle.std.proofs.lemmas.List.{drop_all}
use Rattle.mvs_model.proofs.ReadingLoops.{counted_all}
use Rattle.job_script.proofs.digits.number.Goals as goal

pub returns : goal.returns
returns c =
    let counted = rw (drop_all c.loop-byte.byte-index c.args.text.now c.loop-byte-test.false) at c.loop-byte.invariant.value in
    counted ∙ counted_all c.args.text.now
