use Rattle.std.proofs.Common.{sym, subst, ◌∙◌}
use Rattle.mvs_job.specs.LineEvents.{IsAvailable}
use Rattle.area_history.proofs.Recording.{ends_so, err_maps, ok_maps}
use Rattle.std.proofs.Common.{◌++◌, ap}
use Rattle.area_history.proofs.chronicle.push_line_ends.Goals as goal

pub returns-in-Answered-clause-ok : goal.returns-in-Answered-clause-ok
returns-in-Answered-clause-ok c =
    let has = subst (IsAvailable c.args.walk.now) c.in-Answered.is c.requires in
    ok_maps c.push_ends.result (λ h number. h ∙ ap (λ v. c.args.events.now ++ v) (sym (ends_so c.args.line number c.args.walk.now c.args.line_event.now _ _ c.fallen.result.now has.0 c.in-Answered.is has.1 c.fallen.ensures))) (c.push_ends.ensures.ok has.0.state)

pub returns-in-Answered-clause-err : goal.returns-in-Answered-clause-err
returns-in-Answered-clause-err c =
    let has = subst (IsAvailable c.args.walk.now) c.in-Answered.is c.requires in
    err_maps c.push_ends.result (λ h number none. h (sym (ends_so c.args.line number c.args.walk.now c.args.line_event.now _ _ c.fallen.result.now has.0 c.in-Answered.is has.1 c.fallen.ensures) ∙ none)) (c.push_ends.ensures.err has.0.state)
