use Rattle.std.proofs.Common.{ap, rules, sym, ◌∙◌}
use Rattle.std.proofs.lemmas.Result.{err_from_is_err_and}
use Rattle.mvs_job.proofs.Forgetting.{stopped_text}
use Rattle.mvs_job.proofs.Strictly.{observed_at, run_heard, run_observed}
use Rattle.mvs_job.proofs.strict.run_observed.Goals as goal

pub returns-clause-run : goal.returns-clause-run
returns-clause-run g c =
    let new = c.new-strict.ensures in
    (run_observed c.args.script.now _ _ _ _ _ _ c.run_lines.new.consumer _ (observed_at _ g.H.SkipObserver.heard _ _ _ _ _ _ _ _ (λ kept. let name = sym (kept ∙ ap (λ h. h.ghost_name) new.hearer) in search rules) (ap (λ h. h.now) new.hearer) new.all_served) c.in_ok-outcome.outcome c.in_ok-outcome.ensures.written)

pub returns-in_err-outcome-clause-stop : goal.returns-in_err-outcome-clause-stop
returns-in_err-outcome-clause-stop g c =
    let p = err_from_is_err_and c.from_residual.result c.from_residual.ensures.1 in
    rw (p.1, p.2) ((stopped_text _ _ _ _ c.args.script.now c.run_lines.new.consumer _ c.in_err-outcome.ensures.written))

pub returns-in_err-outcome-clause-heard : goal.returns-in_err-outcome-clause-heard
returns-in_err-outcome-clause-heard g c =
    let p = err_from_is_err_and c.from_residual.result c.from_residual.ensures.1 in
    let new = c.new-strict.ensures in
    rw (p.1)
    (run_heard c.args.script.now _ _ _ _ _ _ c.run_lines.new.consumer _ (observed_at _ g.H.SkipObserver.heard _ _ _ _ _ _ _ _ (λ kept. let name = sym (kept ∙ ap (λ h. h.ghost_name) new.hearer) in search rules) (ap (λ h. h.now) new.hearer) new.all_served) _ c.in_err-outcome.ensures.written)
