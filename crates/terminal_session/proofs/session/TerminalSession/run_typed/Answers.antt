use Rattle.std.proofs.Common.{◌≡◌, ◌∙◌, refl}
use Rattle.std.proofs.lemmas.Result.{err_from_is_err_and}
use Rattle.terminal_session.proofs.Stepping.{over_fails, over_stops}
use Rattle.terminal_session.proofs.session.TerminalSession.run_typed.Goals as goal

pub typed-init : goal.typed-init
typed-init g c = record {
  job = λ first unread before lines h. h;
  at_end = λ h e. h e;
  cleans = refl;
  input = refl;
  writer = refl;
}

pub step-requires : goal.step-requires
step-requires g c = (c.typed.invariant.job c.requires.0 c.requires.1 c.requires.2 c.requires.3 c.requires.4).run.counted

pub typed-preserved : goal.typed-preserved
typed-preserved g c = record {
  job = λ first unread before lines h.
      let under = c.typed.invariant.job first unread before lines h in
      let job = rw (← c.typed.invariant.cleans) at under in
      let steps = c.in_ok-step.ensures.steps first unread before lines job in
      let made = rw (c.in-Next.is, c.typed.invariant.cleans) at steps in
      made;
  at_end = λ h e. c.in_ok-step.ensures.at_end (c.typed.invariant.at_end h) e;
  cleans = c.in_ok-step.ensures.cleans ∙ c.typed.invariant.cleans;
  input = c.in_ok-step.ensures.ok.0 ∙ c.typed.invariant.input;
  writer = c.in_ok-step.ensures.ok.1 ∙ c.typed.invariant.writer;
}

pub returns-in-Again-clause-stops : goal.returns-in-Again-clause-stops
returns-in-Again-clause-stops g c first unread before lines h =
    let under = c.typed.invariant.job first unread before lines h in
    let job = rw (← c.typed.invariant.cleans) at under in
    let steps = c.in_ok-step.ensures.steps first unread before lines job in
    let made = rw (c.in-Again.is, c.typed.invariant.cleans) at steps in
    rw (c.report_restart.ensures) made

pub returns-in-Quit-clause-stops : goal.returns-in-Quit-clause-stops
returns-in-Quit-clause-stops g c first unread before lines h =
    let piece = g.C.Consumer.piece in
    let knows = g.C.Consumer.knows first in
    let under = c.typed.invariant.job first unread before lines h in
    let job = rw (← c.typed.invariant.cleans) at under in
    let steps = c.in_ok-step.ensures.steps first unread before lines job in
    let made = rw (c.in-Quit.is, c.typed.invariant.cleans) at steps in
    over_stops piece knows c.args.self.now.cleans unread before lines (g.R.Read.remaining c.step.new.self.input.inner.inner) (g.W.Write.contents c.step.new.writer.inner) c.step.new.self.input.ended c.step.new.self.script c.step.new.walk c.step.new.consumer made.0 made.1 (g.W.Write.contents c.end_job.new.writer.inner) c.end_job.new.consumer c.end_job.result (c.end_job.ensures.ran first)

pub returns-in-Quit-clause-fails : goal.returns-in-Quit-clause-fails
returns-in-Quit-clause-fails g c first unread before lines h =
    let piece = g.C.Consumer.piece in
    let knows = g.C.Consumer.knows first in
    let under = c.typed.invariant.job first unread before lines h in
    let job = rw (← c.typed.invariant.cleans) at under in
    let steps = c.in_ok-step.ensures.steps first unread before lines job in
    let made = rw (c.in-Quit.is, c.typed.invariant.cleans) at steps in
    over_fails piece knows c.args.self.now.cleans unread before lines (g.R.Read.remaining c.step.new.self.input.inner.inner) (g.W.Write.contents c.step.new.writer.inner) c.step.new.self.input.ended c.step.new.self.script c.step.new.walk c.step.new.consumer made.0 made.1 (g.W.Write.contents c.end_job.new.writer.inner) c.end_job.new.consumer c.step.new.self.input.count c.end_job.result (c.end_job.ensures.ran first)

pub returns-in_err-step-clause-fails : goal.returns-in_err-step-clause-fails
returns-in_err-step-clause-fails g c =
    let p = err_from_is_err_and c.from_residual.result c.from_residual.ensures.1 in
    rw (p.1, p.2) (λ first unread before lines h.
    let under = c.typed.invariant.job first unread before lines h in
    let job = rw (← c.typed.invariant.cleans) at under in
    let steps = c.in_err-step.ensures.steps first unread before lines job in
    let made = rw (c.typed.invariant.cleans) at steps in
    made)
