use Rattle.std.proofs.Common.{◌≡◌, ◌∙◌, ap, refl, subst, Ok, Err}
use Rattle.std.specs.List.{AllByRecursion}
use Rattle.std.proofs.lemmas.Result.{err_from_is_err_and}
use Rattle.mvs_model.specs.Lines.{IsUnended}
use Rattle.mvs_job.specs.Consuming.{HasRun, Leaves}
use Rattle.mvs_job.specs.LineEvents.{new_walk}
use Rattle.terminal_session.specs.Sessions.{Replays, SessionValue}
use Rattle.terminal_session.proofs.Stepping.{job_begun, job_faulty, job_stopped, on_ok}
use Rattle.terminal_session.proofs.session.TerminalSession.run_job.Goals as goal

pub run_typed-requires : goal.run_typed-requires
run_typed-requires g c =
    let piece = g.C.Consumer.piece in
    let knows = g.C.Consumer.knows c.args.consumer.now in
    let unread = g.R.Read.remaining c.args.self.now.input.inner.inner in
    let before = g.W.Write.contents c.args.writer.now.inner in
    let lines = c.args.self.now.script in
    let view : c.self.inside.script ≡ lines = ap (λ (v : SessionValue g.row.R.Denot). v.script) c.self.view_is in
    let each = subst (AllByRecursion IsUnended) view c.lines-former.ensures.each in
    let ran = rw (c.if-not-continues.false) at c.in_ok-continues.ensures.ran in
    let run = subst (λ x. HasRun piece knows before (g.W.Write.contents c.replay.new.writer.inner) x c.replay.new.walk c.replay.new.consumer) (c.lines-former.ensures.lines ∙ view) ran in
    (c.args.consumer.now, unread, before, lines, job_begun piece knows c.args.self.now.cleans unread before (g.W.Write.contents c.replay.new.writer.inner) c.args.self.now.input.ended lines c.replay.new.walk c.replay.new.consumer each run)

pub returns-clause-stops : goal.returns-clause-stops
returns-clause-stops g c =
    let piece = g.C.Consumer.piece in
    let knows = g.C.Consumer.knows c.args.consumer.now in
    let unread = g.R.Read.remaining c.args.self.now.input.inner.inner in
    let before = g.W.Write.contents c.args.writer.now.inner in
    let lines = c.args.self.now.script in
    let view : c.self.inside.script ≡ lines = ap (λ (v : SessionValue g.row.R.Denot). v.script) c.self.view_is in
    let each = subst (AllByRecursion IsUnended) view c.lines-former.ensures.each in
    let ran = rw (c.if-not-continues.false) at c.in_ok-continues.ensures.ran in
    let run = subst (λ x. HasRun piece knows before (g.W.Write.contents c.replay.new.writer.inner) x c.replay.new.walk c.replay.new.consumer) (c.lines-former.ensures.lines ∙ view) ran in
    c.run_typed.ensures.stops c.args.consumer.now unread before lines (job_begun piece knows c.args.self.now.cleans unread before (g.W.Write.contents c.replay.new.writer.inner) c.args.self.now.input.ended lines c.replay.new.walk c.replay.new.consumer each run)

pub returns-clause-fails : goal.returns-clause-fails
returns-clause-fails g c =
    let piece = g.C.Consumer.piece in
    let knows = g.C.Consumer.knows c.args.consumer.now in
    let unread = g.R.Read.remaining c.args.self.now.input.inner.inner in
    let before = g.W.Write.contents c.args.writer.now.inner in
    let lines = c.args.self.now.script in
    let view : c.self.inside.script ≡ lines = ap (λ (v : SessionValue g.row.R.Denot). v.script) c.self.view_is in
    let each = subst (AllByRecursion IsUnended) view c.lines-former.ensures.each in
    let ran = rw (c.if-not-continues.false) at c.in_ok-continues.ensures.ran in
    let run = subst (λ x. HasRun piece knows before (g.W.Write.contents c.replay.new.writer.inner) x c.replay.new.walk c.replay.new.consumer) (c.lines-former.ensures.lines ∙ view) ran in
    c.run_typed.ensures.fails c.args.consumer.now unread before lines (job_begun piece knows c.args.self.now.cleans unread before (g.W.Write.contents c.replay.new.writer.inner) c.args.self.now.input.ended lines c.replay.new.walk c.replay.new.consumer each run)

pub returns-clause-ok : goal.returns-clause-ok
returns-clause-ok g c = on_ok c.run_typed.result _ _ (λ h. (h.0, h.1 ∙ c.in_ok-continues.ensures.ok)) c.run_typed.ensures.ok

pub returns-then-not-continues-clause-stops : goal.returns-then-not-continues-clause-stops
returns-then-not-continues-clause-stops g c =
    let piece = g.C.Consumer.piece in
    let knows = g.C.Consumer.knows c.args.consumer.now in
    let unread = g.R.Read.remaining c.args.self.now.input.inner.inner in
    let before = g.W.Write.contents c.args.writer.now.inner in
    let lines = c.args.self.now.script in
    let view : c.self.inside.script ≡ lines = ap (λ (v : SessionValue g.row.R.Denot). v.script) c.self.view_is in
    let after = g.W.Write.contents c.replay.new.writer.inner in
    let ran = subst (λ x. Replays piece knows before after x c.replay.new.walk c.replay.new.consumer (Ok c.in_ok-continues.continues)) (c.lines-former.ensures.lines ∙ view) c.in_ok-continues.ensures.ran in
    let fault = rw (c.if-not-continues.true) at ran in
    job_faulty piece knows c.args.self.now.cleans unread before after c.args.self.now.input.ended lines c.replay.new.walk c.replay.new.consumer fault

pub returns-in_err-continues-clause-fails : goal.returns-in_err-continues-clause-fails
returns-in_err-continues-clause-fails g c =
    let piece = g.C.Consumer.piece in
    let knows = g.C.Consumer.knows c.args.consumer.now in
    let unread = g.R.Read.remaining c.args.self.now.input.inner.inner in
    let before = g.W.Write.contents c.args.writer.now.inner in
    let lines = c.args.self.now.script in
    let view : c.self.inside.script ≡ lines = ap (λ (v : SessionValue g.row.R.Denot). v.script) c.self.view_is in
    let after = g.W.Write.contents c.replay.new.writer.inner in
    let ran = subst (λ x. Replays piece knows before after x c.replay.new.walk c.replay.new.consumer (Err c.in_err-continues.field-0.0)) (c.lines-former.ensures.lines ∙ view) c.in_err-continues.ensures.ran in
    let p = err_from_is_err_and c.from_residual.result c.from_residual.ensures.1 in
    rw (p.1, p.2) (job_stopped piece knows c.args.self.now.cleans unread before after c.args.self.now.input.ended lines c.replay.new.walk c.replay.new.consumer c.args.self.now.input.count c.in_err-continues.field-0.0 ran)
