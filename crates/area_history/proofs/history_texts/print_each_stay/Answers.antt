use Rattle.std.proofs.Common.{[], ◌∙◌}
use Rattle.std.proofs.lemmas.Result.{err_from_is_err_and}
use Rattle.area_history.specs.HistoryTexts.{stay_line}
use Rattle.line_text.proofs.Appending.{lines_more, lines_front}
use Rattle.area_history.proofs.history_texts.print_each_stay.Goals as goal

pub returns-in_err-print_stay : goal.returns-in_err-print_stay
returns-in_err-print_stay g c =
    let p = err_from_is_err_and c.from_residual.result c.from_residual.ensures.1 in
    rw (p.1) (record { bytes = lines_front stay_line [] c.args.leaks.now _ _ _ c.loop-leak.leak-index c.leak-item.result c.loop-leak-test.true c.leak-item.is c.loop-leak.invariant.so_far c.in_err-print_stay.ensures.bytes; ok = tt; err = c.in_err-print_stay.ensures.err })

pub loop-leak-preserved : goal.loop-leak-preserved
loop-leak-preserved g c = record {
  so_far = lines_more stay_line [] c.args.leaks.now _ _ _ c.loop-leak.leak-index c.leak-item.result c.loop-leak-test.true c.leak-item.is c.loop-leak.invariant.so_far c.in_ok-print_stay.ensures.bytes;
  same = c.in_ok-print_stay.ensures.ok ∙ c.loop-leak.invariant.same;
}
