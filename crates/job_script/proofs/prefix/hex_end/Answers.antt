use Rattle.std.proofs.Common.{sym, ◌∙◌}
use Rattle.mvs_model.specs.Reading.{is_hex_digit}
use Rattle.job_script.proofs.Fronts.{all_more}
use Rattle.job_script.proofs.prefix.hex_end.Goals as goal

pub loop-i-preserved : goal.loop-i-preserved
loop-i-preserved c = record {
  digits = all_more is_hex_digit c.args.text.now c.loop-i.i c.loop-i-test.true c.loop-i.invariant.digits (sym c.is_hex_digit.ensures ∙ c.if-not-is_hex_digit.false);
}
