use Rattle.std.proofs.Common.{[], inl, inr, subst, sym, ◌∙◌}
use Rattle.std.proofs.lemmas.Result.{err_from_is_err_and}
use Rattle.mvs_model.specs.Reading.{LineOf}
use Rattle.mvs_model.specs.Walk.{is_first}
use Rattle.request_forms.specs.Taking.{Takes}
use Rattle.mvs_job.specs.LineEvents.{IsReadIn, ServesAs}
use Rattle.mvs_job.proofs.Accepting.{accepted_at}
use Rattle.mvs_job.proofs.Entries.{entry_executed, entry_exhausted}
use Rattle.mvs_job.proofs.Serving.{serves_unconditionally}
use Rattle.terminal_session.proofs.Continued.{entry_continues, not_faulted}
use Rattle.terminal_session.proofs.running.run_parsed.Goals as goal

pub returns-in-Ok-clause-ran : goal.returns-in-Ok-clause-ran
returns-in-Ok-clause-ran g c first history leads known =
    let w = c.args.walk.now in
    let w' = c.execute.new.self in
    let line = c.args.line.now in
    let n = c.number-line_number.result in
    let mid = c.look.new.self in
    let t = c.in-Ok.line_event in
    let executed : ServesAs w line t w' = serves_unconditionally (Takes []) w w' line t (c.in-Ok.ensures.executed line c.requires.parsed) in
    let reads : IsReadIn w.step line w'.read = inl (subst (LineOf (is_first w.step) line) (sym c.execute.ensures.read) c.requires.parsed) in
    let seen = subst (λ l. g.C.Consumer.sees mid w.step l) (sym c.execute.ensures.read) c.look.ensures.sees in
    let mine = c.look.ensures.knows first history known in
    let r = entry_executed w w' line reads n t c.number-line_number.ensures (not_faulted w w' line w.read c.requires.parsed t executed) executed c.in-Ok.ensures.request in
    let q = accepted_at g.C.Consumer.piece g.C.Observer.heard g.C.Consumer.sees (g.C.Consumer.knows first) _ _ c.execute.new.observer c.entry.new.self mid w w' line n t history c.entry.result r.0 (c.entry.ensures.accepted first) (inl r.1.0) r.2 leads seen (c.in-Ok.ensures.observed line c.requires.parsed) mine in
    entry_continues g.C.Consumer.piece g.C.Observer.heard g.C.Consumer.sees (g.C.Consumer.knows first) _ _ c.execute.new.observer c.entry.new.self mid w w' line n t history c.entry.result r.0 r.1.0 r.1.1 q

pub returns-in_ok-end-in-Err-clause-ran : goal.returns-in_ok-end-in-Err-clause-ran
returns-in_ok-end-in-Err-clause-ran g c first history leads known =
    let w = c.args.walk.now in
    let line = c.args.line.now in
    let r = entry_exhausted w line c.number-line_number.result c.in-Err.stopped.ended c.number-line_number.ensures (c.in-Err.ensures.executed line c.requires.parsed) in
    let mine = subst (λ s. (g.C.Consumer.knows first).has s history) (sym c.in-Err.ensures.unheard) (c.look.ensures.knows first history known) in
    let q = c.in_ok-end-in-Err.ensures.accepted first history r.0 r.2.0 tt (r.2.1 ∙ leads) mine in
    inl (r.0, r.1, q.0, q.1)

pub returns-in_err-end-in-Err-clause-ran : goal.returns-in_err-end-in-Err-clause-ran
returns-in_err-end-in-Err-clause-ran g c first history leads known =
    let w = c.args.walk.now in
    let line = c.args.line.now in
    let r = entry_exhausted w line c.number-line_number.result c.in-Err.stopped.ended c.number-line_number.ensures (c.in-Err.ensures.executed line c.requires.parsed) in
    let mine = subst (λ s. (g.C.Consumer.knows first).has s history) (sym c.in-Err.ensures.unheard) (c.look.ensures.knows first history known) in
    let q = c.in_err-end-in-Err.ensures.accepted first history r.0 r.2.0 tt (r.2.1 ∙ leads) mine in
    let p = err_from_is_err_and c.from_residual.result c.from_residual.ensures.1 in
    rw (p.1, p.2) (r.0, inr (inr r.1), q.0, q.1)
