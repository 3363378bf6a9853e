use Rattle.std.proofs.Common.{[], ◌∙◌}
use Rattle.std.proofs.lemmas.Result.{err_from_is_err_and}
use Rattle.area_history.specs.LeakTexts.{leak_line}
use Rattle.line_text.proofs.Appending.{lines_more, lines_front}
use Rattle.area_history.proofs.texts.print_each.Goals as goal

pub returns-in_err-print_leak : goal.returns-in_err-print_leak
returns-in_err-print_leak g c =
    let p = err_from_is_err_and c.from_residual.result c.from_residual.ensures.1 in
    rw (p.1) (record { bytes = lines_front leak_line [] c.args.leaks.now _ _ _ c.loop-leak.leak-index c.leak-item.result c.loop-leak-test.true c.leak-item.is c.loop-leak.invariant.so_far c.in_err-print_leak.ensures.bytes; ok = tt; err = c.in_err-print_leak.ensures.err })

pub loop-leak-preserved : goal.loop-leak-preserved
loop-leak-preserved g c = record {
  so_far = lines_more leak_line [] c.args.leaks.now _ _ _ c.loop-leak.leak-index c.leak-item.result c.loop-leak-test.true c.leak-item.is c.loop-leak.invariant.so_far c.in_ok-print_leak.ensures.bytes;
  same = c.in_ok-print_leak.ensures.ok ∙ c.loop-leak.invariant.same;
}
