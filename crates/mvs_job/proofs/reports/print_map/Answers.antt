use Rattle.std.proofs.Common.{◌+◌, arith, ap, refl, ◌∙◌}
use Rattle.std.proofs.lemmas.Result.{err_from_is_err_and}
use Rattle.mvs_job.proofs.Mapping.{map_start, map_more, map_front, map_done}
use Rattle.mvs_job.proofs.reports.print_map.Goals as goal

pub runs-init : goal.runs-init
runs-init g c = record { so_far = map_start c.args.line_number c.args.job.now.state c.args.task.now _ c.new-from.result c.new-from.ensures; low = omega (arith, c.new-from.ensures); same = refl }

pub returns-in_err-print_map_run : goal.returns-in_err-print_map_run
returns-in_err-print_map_run g c =
    let p = err_from_is_err_and c.from_residual.result c.from_residual.ensures.1 in
    rw (p.1) (record { bytes = map_front c.args.line_number c.args.job.now.state c.args.task.now _ _ _ c.runs.from c.in-Some.run' c.step.ensures.bounded c.runs.invariant.so_far (rw (c.step.ensures.state) at c.in-Some.ensures) c.in_err-print_map_run.ensures.bytes; ok = tt; err = c.in_err-print_map_run.ensures.err })

pub runs-preserved : goal.runs-preserved
runs-preserved g c = record {
  so_far = map_more c.args.line_number c.args.job.now.state c.args.task.now _ _ _ c.runs.from c.new-from-in-Some.result c.in-Some.run' c.step.ensures.bounded c.runs.invariant.so_far (rw (c.step.ensures.state) at c.in-Some.ensures) (c.new-from-in-Some.ensures ∙ ap (λ n. n + c.in-Some.run'.len) c.get.ensures.value) c.in_ok-print_map_run.ensures.bytes;
  low = omega (arith, c.new-from-in-Some.ensures, c.get.ensures.value, c.in-Some.ensures.end);
  same = c.in_ok-print_map_run.ensures.ok ∙ c.runs.invariant.same;
}

pub returns : goal.returns
returns g c = record { bytes = map_done c.args.line_number c.args.job.now.state c.args.task.now _ _ c.runs.from c.step.ensures.bounded c.runs.invariant.so_far (rw (c.step.ensures.state) at c.in_default.ensures); ok = c.runs.invariant.same; err = tt }
