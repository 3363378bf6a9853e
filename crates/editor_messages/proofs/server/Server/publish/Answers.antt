use Rattle.std.proofs.Common.{ap, refl, subst, ◌∙◌}
use Rattle.editor_messages.specs.Queries.{notice_value}
use Rattle.editor_messages.specs.Sent.{framed, notice_text}
use Rattle.editor_messages.specs.Serving.{Moment}
use Rattle.editor_messages.proofs.Running.{if_ok}
use Rattle.editor_messages.proofs.server.Server.publish.Goals as goal

pub returns : goal.returns
returns g c =
    let now = c.notice.new.self in
    let params = c.in_ok-params.params.items in
    let may = subst (λ (m : Moment g.row.A.Denot). g.A.Answers.may_notice m.answers (notice_value c.args.notice.now) now params) c.self.view_is c.in_ok-params.ensures in
    let then = ap (λ (m : Moment g.row.A.Denot). let r : Moment g.row.A.Denot = record { phase = m.phase; answers = now } in r) c.self.view_is in
    if_ok c.notice_frame.result (λ sent e. (now, params, may, e ∙ ap (λ l. framed (notice_text l)) c.deref.ensures.value, refl, then)) c.notice_frame.ensures
