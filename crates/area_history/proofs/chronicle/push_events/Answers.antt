use Rattle.std.proofs.Common.{Some, ◌++◌, append_assoc, ◌∙◌, ap, sym}
use Rattle.mvs_model.specs.declared.line.Line.TheVariants as line
use Rattle.mvs_model.specs.declared.line.Statement.TheVariants as says
use Rattle.mvs_job.specs.LineEvents.{events_of_line}
use Rattle.area_history.specs.Histories.{ends_by, events_by, granted_changes}
use Rattle.area_history.proofs.Asked.{resolves_in}
use Rattle.area_history.proofs.Recording.{ok_maps}
use Rattle.area_history.proofs.chronicle.push_events.Goals as goal

pub returns-clause-ok : goal.returns-clause-ok
returns-clause-ok c =
    let n = c.args.line in
    let w = c.args.at.walk.now in
    let t = c.args.at.line_event.now in
    let events = events_of_line n w t in
    let task = c.in-Statement.task in
    let a = c.in-Request.written in
    let job = c.in-Some.job.now in
    let read = sym c.read.ensures ∙ c.in-Statement.is ∙ ap (λ s. line.Statement task s) c.in-Request.is in
    ok_maps c.push_line_ends.result (λ h has.
    let granted = c.in_ok-push_granted_changes.ensures.ok n w c.requires (resolves_in w t job task a c.last_request-request.result.now c.in-Some.ensures read c.last_request-request.ensures has) in
    h n ∙ ap (λ v. v ++ ends_by n events) granted ∙ append_assoc c.args.events.now (granted_changes n task job c.args.areas a events) (ends_by n events)
    ∙ ap (λ o. c.args.events.now ++ events_by n (line.Statement task (says.Request a)) events o c.args.areas) (sym c.in-Some.ensures) ∙ ap (λ l. c.args.events.now ++ events_by n l events w.step c.args.areas) (sym read)) c.push_line_ends.ensures.ok
