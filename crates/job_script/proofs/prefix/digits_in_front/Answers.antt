use Rattle.std.proofs.Common.{◌≡◌, ◌+◌, ◌*◌, ◌≤◌, sym, ◌∙◌, true, arith, slice_index_or}
use Rattle.mvs_model.specs.Reading.{is_digit}
use Rattle.job_script.proofs.Fronts.{all_more, digit_is, next_small, number_more}
use Rattle.job_script.proofs.prefix.digits_in_front.Goals as goal

pub loop-i-preserved : goal.loop-i-preserved
loop-i-preserved c =
    let text = c.args.text.now in
    let i = c.loop-i.i in
    let b = slice_index_or text i 0 in
    let digit : is_digit b ≡ true = digit_is b (sym c.is_ascii_digit.ensures.value ∙ c.if-not-is_ascii_digit.false) in
    record {
      digits = all_more is_digit text i c.loop-i-test.true c.loop-i.invariant.digits digit;
      value = (λ k. c.loop-i.invariant.value k * 10 + c.from.ensures k) ∙ sym (number_more text i c.loop-i-test.true);
      small = next_small c.loop-i.value c.from.result i b digit c.from.ensures c.loop-i.invariant.small;
      few = let some : c.loop-i.i ≤ 10 = c.loop-i.invariant.few in omega (arith, c.if-i-eq10.false);
    }
