use Rattle.std.proofs.Common.{◌∙◌, ap}
use Rattle.std.specs.Prelude.{◌||◌}
use Rattle.std.proofs.lemmas.Result.{err_from_is_err_and}
use Rattle.mvs_job.proofs.Forgetting.{stopped_text}
use Rattle.area_history.specs.Ledgers.{any_leak, no_step}
use Rattle.area_history.proofs.Reported.{or_false}
use Rattle.area_history.proofs.run.run_with_report.Goals as goal

pub returns-in_err-outcome-clause-stop : goal.returns-in_err-outcome-clause-stop
returns-in_err-outcome-clause-stop g c =
    let p = err_from_is_err_and c.from_residual.result c.from_residual.ensures.1 in
    rw (p.1, p.2) (stopped_text _ _ _ _ c.args.script.now c.run_lines.new.consumer _ c.in_err-outcome.ensures.written)

pub returns-clause-run : goal.returns-clause-run
returns-clause-run g c =
    let l = c.in_ok-outcome.ensures.written in
    let r = l.2 in
    let k = r.known in (
      r.entries,
      record {
        trace = r.trace;
        text = l.0;
        is = r.is;
        appended = l.1;
        leaks = c.has_leaked.ensures ∙ k.2.leaked ∙ ap (λ b. any_leak no_step r.entries || b) c.new-reporter.ensures.leaked ∙ or_false (any_leak no_step r.entries);
      },
    )
