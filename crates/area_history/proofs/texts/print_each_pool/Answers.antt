use Rattle.std.proofs.Common.{[], ◌∙◌}
use Rattle.std.proofs.lemmas.Result.{err_from_is_err_and}
use Rattle.area_history.specs.LeakTexts.{pool_line}
use Rattle.line_text.proofs.Appending.{lines_more, lines_front}
use Rattle.area_history.proofs.texts.print_each_pool.Goals as goal

pub returns-in_err-print_pool : goal.returns-in_err-print_pool
returns-in_err-print_pool g c =
    let p = err_from_is_err_and c.from_residual.result c.from_residual.ensures.1 in
    rw (p.1) (record { bytes = lines_front pool_line [] c.args.pools.now _ _ _ c.loop-pool.pool-index c.pool-item.result c.loop-pool-test.true c.pool-item.is c.loop-pool.invariant.so_far c.in_err-print_pool.ensures.bytes; ok = tt; err = c.in_err-print_pool.ensures.err })

pub loop-pool-preserved : goal.loop-pool-preserved
loop-pool-preserved g c = record {
  so_far = lines_more pool_line [] c.args.pools.now _ _ _ c.loop-pool.pool-index c.pool-item.result c.loop-pool-test.true c.pool-item.is c.loop-pool.invariant.so_far c.in_ok-print_pool.ensures.bytes;
  same = c.in_ok-print_pool.ensures.ok ∙ c.loop-pool.invariant.same;
}
