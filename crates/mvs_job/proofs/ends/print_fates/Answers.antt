use Rattle.std.proofs.Common.{[], ◌∙◌}
use Rattle.std.proofs.lemmas.Result.{err_from_is_err_and}
use Rattle.line_text.proofs.Appending.{lines_more, lines_front}
use Rattle.mvs_job.specs.Facts.{ended_pair, subpool_line}
use Rattle.mvs_job.proofs.ends.print_fates.Goals as goal

pub returns-in_err-print_fate : goal.returns-in_err-print_fate
returns-in_err-print_fate g c =
    let p = err_from_is_err_and c.from_residual.result c.from_residual.ensures.1 in
    rw (p.1) (record { bytes = lines_front (subpool_line (ended_pair c.args.ended.now)) [] c.args.subpools.now _ _ _ c.loop-subpool.subpool-index c.subpool-item.result c.loop-subpool-test.true c.subpool-item.is c.loop-subpool.invariant.so_far c.in_err-print_fate.ensures.bytes; ok = tt; err = c.in_err-print_fate.ensures.err })

pub loop-subpool-preserved : goal.loop-subpool-preserved
loop-subpool-preserved g c = record {
  so_far = lines_more (subpool_line (ended_pair c.args.ended.now)) [] c.args.subpools.now _ _ _ c.loop-subpool.subpool-index c.subpool-item.result c.loop-subpool-test.true c.subpool-item.is c.loop-subpool.invariant.so_far c.in_ok-print_fate.ensures.bytes;
  same = c.in_ok-print_fate.ensures.ok ∙ c.loop-subpool.invariant.same;
}
