use Rattle.std.proofs.Common.{arith, ◌∙◌}
use Rattle.std.proofs.lemmas.Grind.{common_steps}
use Rattle.std.proofs.lemmas.Result.{err_from_is_err_and}
use Rattle.line_text.proofs.Appending.{Appends-kept, Appends_next, front_taken}
use Rattle.line_text.proofs.print.write_all.Goals as goal

pub returns-in_err-count : goal.returns-in_err-count
returns-in_err-count g c =
    let p = err_from_is_err_and c.from_residual.result c.from_residual.ensures.1 in
    rw (p.1) (record {
      bytes = front_taken _ _ c.loop-at.at c.args.bytes.now (Appends-kept _ _ _ _ c.loop-at.invariant.so_far c.in_err-count.ensures.bytes);
      ok = tt;
      err = c.in_err-count.ensures.err;
    })

pub loop-at-preserved : goal.loop-at-preserved
loop-at-preserved g c = record {
  in_range = grind (arith, common_steps);
  so_far = Appends_next _ _ _ _ _ _ c.loop-at.invariant.so_far c.in_ok-count.ensures.bytes;
  same = c.in_ok-count.ensures.ok ∙ c.loop-at.invariant.same;
}
