use Rattle.std.proofs.Common.{[], ◌++◌, ◌∙◌, ap, sym}
use Rattle.std.specs.Prelude.{if◌then◌else◌}
use Rattle.area_history.specs.Histories.{changed_by}
use Rattle.area_history.proofs.Asked.{resolves_at}
use Rattle.area_history.proofs.Recording.{err_maps, ok_maps}
use Rattle.area_history.proofs.chronicle.push_granted_changes.Goals as goal

pub returns-clause-ok : goal.returns-clause-ok
returns-clause-ok c =
    let l = c.args.line.now in
    let a = c.args.written.now in
    let changed = changed_by l.number l.task.now l.job.now c.args.areas a in
    ok_maps c.push_changed.result (λ h number walk has asked.
    let granted = sym (c.reports_grant.ensures number walk has) ∙ c.if-not-reports_grant.false in
    h (resolves_at number walk c.args.line_event.now l.job.now a c.args.request.now granted asked) ∙ ap (λ b. c.args.events.now ++ (if b then changed else [])) (sym granted)) c.push_changed.ensures.ok

pub returns-clause-err : goal.returns-clause-err
returns-clause-err c =
    let l = c.args.line.now in
    let a = c.args.written.now in
    let changed = changed_by l.number l.task.now l.job.now c.args.areas a in
    err_maps c.push_changed.result (λ h number walk has asked none.
    let granted = sym (c.reports_grant.ensures number walk has) ∙ c.if-not-reports_grant.false in
    h (resolves_at number walk c.args.line_event.now l.job.now a c.args.request.now granted asked) (ap (λ b. if b then changed else []) (sym granted) ∙ none)) c.push_changed.ensures.err
