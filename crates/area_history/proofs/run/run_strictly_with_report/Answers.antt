use Rattle.std.proofs.Common.{◌∙◌, ap}
use Rattle.std.specs.Prelude.{◌||◌, ◌&&◌}
use Rattle.std.specs.List.{list_all}
use Rattle.std.proofs.lemmas.Result.{err_from_is_err_and}
use Rattle.mvs_job.specs.Strict.{is_of_served}
use Rattle.mvs_job.specs.Trace.{events_of}
use Rattle.mvs_job.proofs.Forgetting.{stopped_text}
use Rattle.area_history.specs.Ledgers.{any_leak, no_step}
use Rattle.area_history.proofs.Reported.{or_false}
use Rattle.area_history.proofs.run.run_strictly_with_report.Goals as goal

pub returns-in_err-outcome-clause-stop : goal.returns-in_err-outcome-clause-stop
returns-in_err-outcome-clause-stop g c =
    let p = err_from_is_err_and c.from_residual.result c.from_residual.ensures.1 in
    rw (p.1, p.2) (stopped_text _ _ _ _ c.args.script.now c.run_lines.new.consumer _ c.in_err-outcome.ensures.written)

pub returns-clause-run : goal.returns-clause-run
returns-clause-run g c =
    let l = c.in_ok-outcome.ensures.written in
    let r = l.2 in
    let k = r.known in
    let new = c.new-reporter.ensures in (
      r.entries,
      record {
        trace = r.trace;
        text = l.0;
        is = r.is;
        appended = l.1;
        leaks = c.has_leaked.ensures ∙ k.2.leaked ∙ ap (λ b. any_leak no_step r.entries || b) new.leaked ∙ or_false (any_leak no_step r.entries);
      },
      c.is_all_served.ensures ∙ ap (λ s. s.all_served) c.consumer.ensures ∙ k.1.2.served ∙ ap (λ s. s.now.all_served && list_all is_of_served (events_of r.entries)) new.consumer ∙ ap (λ b. b && list_all is_of_served (events_of r.entries)) c.requires.all,
    )
