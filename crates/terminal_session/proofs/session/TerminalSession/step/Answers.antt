use Rattle.std.proofs.Common.{◌≡◌, ◌∙◌, ◌<◌, ◌≤◌, ◌+◌, Ok, ap, subst, sym, false, true}
use Rattle.std.specs.Io.KnownBytes.{IsAtEnd}
use Rattle.std.proofs.lemmas.Result.{err_from_is_err_and}
use Rattle.mvs_model.specs.Numbers.{most_script_bytes}
use Rattle.terminal_session.specs.declared.session.Step.TheVariants.{Quit}
use Rattle.std.specs.List.{AllByRecursion}
use Rattle.mvs_model.specs.Lines.{IsUnended}
use Rattle.mvs_job.specs.Consuming.{HasRun}
use Rattle.shell.specs.Inputs.{InputValue}
use Rattle.shell.specs.Edits.{is_command, edit_of}
use Rattle.terminal_session.specs.Sessions.{text_of}
use Rattle.terminal_session.specs.Steps.{Accepted, Obeys, Steps}
use Rattle.terminal_session.proofs.Playing.{run_kept}
use Rattle.terminal_session.proofs.Stepping.{accepted, flush_failed, nothing_left, obeyed, on_ok, read_failed}
use Rattle.terminal_session.proofs.session.TerminalSession.step.Goals as goal

pub returns-in_err-pass_on-clause-steps : goal.returns-in_err-pass_on-clause-steps
returns-in_err-pass_on-clause-steps g c =
    let p = err_from_is_err_and c.from_residual.result c.from_residual.ensures.1 in
    rw (p.1, p.2, c.in_err-pass_on.ensures.err.0) (λ first unread before lines job.
    flush_failed g.C.Consumer.piece (g.C.Consumer.knows first) c.args.self.now.cleans unread before lines (g.R.Read.remaining c.args.self.now.input.inner.inner) (g.W.Write.contents c.args.writer.now.inner) c.args.self.now.input.ended c.args.self.now.script c.args.walk.now c.args.consumer.now job (g.W.Write.contents c.pass_on.new.writer.inner) c.pass_on.ensures.bytes c.args.self.now.input.count)

pub returns-in_err-has_line-clause-steps : goal.returns-in_err-has_line-clause-steps
returns-in_err-has_line-clause-steps g c =
    let a = c.in_err-has_line.ensures.awaits in
    let p = err_from_is_err_and c.from_residual-in_err-has_line.result c.from_residual-in_err-has_line.ensures.1 in
    rw (p.1, p.2) (λ first unread before lines job.
    read_failed g.C.Consumer.piece (g.C.Consumer.knows first) c.args.self.now.cleans unread before lines (g.R.Read.remaining c.args.self.now.input.inner.inner) (g.W.Write.contents c.args.writer.now.inner) c.args.self.now.input.ended c.args.self.now.script c.args.walk.now c.args.consumer.now job (g.R.Read.remaining c.await_line.new.self.input.inner.inner) (g.W.Write.contents c.pass_on.new.writer.inner) c.pass_on.ensures.bytes c.await_line.new.self.input.count c.in_err-has_line.field-0.0 a.0 a.1)

pub returns-then-is_command-clause-steps : goal.returns-then-is_command-clause-steps
returns-then-is_command-clause-steps g c first unread before lines job =
    let piece = g.C.Consumer.piece in
    let knows = g.C.Consumer.knows first in
    let cleans = c.args.self.now.cleans in
    let mid = c.args.self.now.script in
    let a = rw (c.if-not-has_line.false) at c.in_ok-has_line.ensures.awaits in
    let s = c.in_ok-has_line.ensures.same in
    let text = c.bytes-then-is_command.result.now in
    let is : text ≡ text_of cleans a.0 = c.bytes-then-is_command.ensures ∙ a.2 in
    let sure : is_command text ≡ true = ap is_command (c.bytes-then-is_command.ensures ∙ sym c.bytes.ensures) ∙ sym c.is_command.ensures ∙ c.if-is_command.true in
    let obeys = subst (λ x. Obeys (edit_of text) x c.obey.new.self.script c.obey.result) s.0 c.obey.ensures.obeyed in
    let o = c.obey.ensures.same in
    subst (λ (i : InputValue g.row.R.Denot). Steps piece knows cleans unread (g.R.Read.remaining i.inner.inner) before (g.W.Write.contents c.pass_on.new.writer.inner) i.ended i.count lines c.obey.new.self.script c.args.walk.now c.args.consumer.now (Ok c.obey.result)) (sym o.0)
    (obeyed piece knows cleans unread before lines (g.R.Read.remaining c.args.self.now.input.inner.inner) (g.W.Write.contents c.args.writer.now.inner) c.args.self.now.input.ended mid c.args.walk.now c.args.consumer.now job (g.R.Read.remaining c.await_line.new.self.input.inner.inner) (g.W.Write.contents c.pass_on.new.writer.inner) c.pass_on.ensures.bytes c.await_line.new.self.input.ended c.await_line.new.self.input.count text a.0 is a.3 a.1 a.4 sure c.obey.new.self.script c.obey.result obeys)

pub returns-else-is_command-clause-steps : goal.returns-else-is_command-clause-steps
returns-else-is_command-clause-steps g c first unread before lines job =
    let piece = g.C.Consumer.piece in
    let knows = g.C.Consumer.knows first in
    let cleans = c.args.self.now.cleans in
    let mid = c.args.self.now.script in
    let now = g.W.Write.contents c.args.writer.now.inner in
    let later = g.W.Write.contents c.pass_on.new.writer.inner in
    let written = g.W.Write.contents c.accept.new.writer.inner in
    let a = rw (c.if-not-has_line.false) at c.in_ok-has_line.ensures.awaits in
    let s = c.in_ok-has_line.ensures.same in
    let text = c.bytes-else-is_command.result.now in
    let is : text ≡ text_of cleans a.0 = c.bytes-else-is_command.ensures ∙ a.2 in
    let never : is_command text ≡ false = ap is_command (c.bytes-else-is_command.ensures ∙ sym c.bytes.ensures) ∙ sym c.is_command.ensures ∙ c.if-is_command.false in
    let each = subst (AllByRecursion IsUnended) (sym s.0) job.each in
    let run = subst (λ x. HasRun piece knows before later x c.args.walk.now c.args.consumer.now) (sym s.0) (run_kept piece knows before now later mid c.args.walk.now c.args.consumer.now job.run c.pass_on.ensures.bytes) in
    let ran = c.accept.ensures.ran first before each run in
    let o = c.accept.ensures.same in
    subst (λ (i : InputValue g.row.R.Denot). Steps piece knows cleans unread (g.R.Read.remaining i.inner.inner) before written i.ended i.count lines c.accept.new.self.script c.accept.new.walk c.accept.new.consumer c.accept.result) (sym o.0)
    (accepted piece knows cleans unread before lines (g.R.Read.remaining c.args.self.now.input.inner.inner) now c.args.self.now.input.ended mid c.args.walk.now c.args.consumer.now job (g.R.Read.remaining c.await_line.new.self.input.inner.inner) later c.pass_on.ensures.bytes c.await_line.new.self.input.ended c.await_line.new.self.input.count text a.0 is a.3 a.1 a.4 never written c.accept.new.self.script c.accept.new.walk c.accept.new.consumer c.accept.result (subst (λ x. Accepted piece knows before written c.await_line.new.self.input.count x text c.accept.new.self.script c.accept.new.walk c.accept.new.consumer c.accept.result) s.0 ran))

pub returns-else-is_command-clause-ok : goal.returns-else-is_command-clause-ok
returns-else-is_command-clause-ok g c =
    let o = c.accept.ensures.same in
    on_ok c.accept.result _ _ (λ h. (ap (λ (i : InputValue g.row.R.Denot). i.inner.failed) o.0 ∙ c.in_ok-has_line.ensures.ok, h ∙ c.in_ok-pass_on.ensures.ok)) c.accept.ensures.ok

pub returns-then-not-has_line-clause-steps : goal.returns-then-not-has_line-clause-steps
returns-then-not-has_line-clause-steps g c first unread before lines job =
    let piece = g.C.Consumer.piece in
    let knows = g.C.Consumer.knows first in
    let cleans = c.args.self.now.cleans in
    let a = rw (c.if-not-has_line.true) at c.in_ok-has_line.ensures.awaits in
    let s = c.in_ok-has_line.ensures.same in
    let left = g.R.Read.remaining c.await_line.new.self.input.inner.inner in
    let later = g.W.Write.contents c.pass_on.new.writer.inner in
    let ended = c.await_line.new.self.input.ended in
    subst (λ x. Steps piece knows cleans unread left before later ended c.await_line.new.self.input.count lines x c.args.walk.now c.args.consumer.now (Ok Quit)) (sym s.0)
    (nothing_left piece knows cleans unread before lines (g.R.Read.remaining c.args.self.now.input.inner.inner) (g.W.Write.contents c.args.writer.now.inner) c.args.self.now.input.ended c.args.self.now.script c.args.walk.now c.args.consumer.now job left later c.pass_on.ensures.bytes ended a.0 a.1)

pub returns-then-is_command-clause-at_end : goal.returns-then-is_command-clause-at_end
returns-then-is_command-clause-at_end g c h e =
    let o = c.obey.ensures.same in
    subst (λ (i : InputValue g.row.R.Denot). i.ended ≡ true → IsAtEnd (g.R.Read.remaining i.inner.inner)) (sym o.0) (c.in_ok-has_line.ensures.at_end h) e

pub returns-then-is_command-clause-more : goal.returns-then-is_command-clause-more
returns-then-is_command-clause-more g c e =
    let a = rw (c.if-not-has_line.false) at c.in_ok-has_line.ensures.awaits in
    let o = c.obey.ensures.same in
    subst (λ (i : InputValue g.row.R.Denot). (c.args.self.now.input.count < i.count) × (i.count ≤ most_script_bytes + 1)) (sym o.0) (a.5, a.6)

pub returns-then-is_command-clause-cleans : goal.returns-then-is_command-clause-cleans
returns-then-is_command-clause-cleans g c =
    let o = c.obey.ensures.same in
    let s = c.in_ok-has_line.ensures.same in
    o.1 ∙ s.1

pub returns-then-is_command-clause-ok : goal.returns-then-is_command-clause-ok
returns-then-is_command-clause-ok g c =
    let o = c.obey.ensures.same in
    (ap (λ (i : InputValue g.row.R.Denot). i.inner.failed) o.0 ∙ c.in_ok-has_line.ensures.ok, c.in_ok-pass_on.ensures.ok)

pub returns-else-is_command-clause-at_end : goal.returns-else-is_command-clause-at_end
returns-else-is_command-clause-at_end g c h e =
    let o = c.accept.ensures.same in
    subst (λ (i : InputValue g.row.R.Denot). i.ended ≡ true → IsAtEnd (g.R.Read.remaining i.inner.inner)) (sym o.0) (c.in_ok-has_line.ensures.at_end h) e

pub returns-else-is_command-clause-more : goal.returns-else-is_command-clause-more
returns-else-is_command-clause-more g c e =
    let a = rw (c.if-not-has_line.false) at c.in_ok-has_line.ensures.awaits in
    let o = c.accept.ensures.same in
    subst (λ (i : InputValue g.row.R.Denot). (c.args.self.now.input.count < i.count) × (i.count ≤ most_script_bytes + 1)) (sym o.0) (a.5, a.6)

pub returns-else-is_command-clause-cleans : goal.returns-else-is_command-clause-cleans
returns-else-is_command-clause-cleans g c =
    let o = c.accept.ensures.same in
    let s = c.in_ok-has_line.ensures.same in
    o.1 ∙ s.1

pub returns-else-is_command-clause-write : goal.returns-else-is_command-clause-write
returns-else-is_command-clause-write g c = c.accept.ensures.write
