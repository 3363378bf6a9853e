use Rattle.std.proofs.Common.{[], ◌∙◌}
use Rattle.std.proofs.lemmas.Result.{err_from_is_err_and}
use Rattle.area_history.specs.LeakTexts.{total_line}
use Rattle.line_text.proofs.Appending.{lines_more, lines_front}
use Rattle.area_history.proofs.texts.print_each_total.Goals as goal

pub returns-in_err-print_total : goal.returns-in_err-print_total
returns-in_err-print_total g c =
    let p = err_from_is_err_and c.from_residual.result c.from_residual.ensures.1 in
    rw (p.1) (record { bytes = lines_front total_line [] c.args.totals.now _ _ _ c.loop-total.total-index c.total-item.result c.loop-total-test.true c.total-item.is c.loop-total.invariant.so_far c.in_err-print_total.ensures.bytes; ok = tt; err = c.in_err-print_total.ensures.err })

pub loop-total-preserved : goal.loop-total-preserved
loop-total-preserved g c = record {
  so_far = lines_more total_line [] c.args.totals.now _ _ _ c.loop-total.total-index c.total-item.result c.loop-total-test.true c.total-item.is c.loop-total.invariant.so_far c.in_ok-print_total.ensures.bytes;
  same = c.in_ok-print_total.ensures.ok ∙ c.loop-total.invariant.same;
}
