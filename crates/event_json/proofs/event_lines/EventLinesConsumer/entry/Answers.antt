use Rattle.std.proofs.Common.{subst, sym}
use Rattle.std.proofs.KnownBytes.{Keeps-refl}
use Rattle.std.proofs.lemmas.Result.{err_from_is_err_and}
use Rattle.mvs_job.specs.LineEvents.{events_of_line}
use Rattle.event_json.specs.Lines.{EndsWithAnswer}
use Rattle.event_json.proofs.Written.{granted_answer}
use Rattle.event_json.proofs.event_lines.EventLinesConsumer.entry.Goals as goal

-- memory is exhausted while the explanation is found: the line is that of a granted request
pub returns-in_err-explain-clause-accepted : goal.returns-in_err-explain-clause-accepted
returns-in_err-explain-clause-accepted g c first =
    let events = events_of_line c.args.line_number c.args.walk.now c.args.line_event.now in
    let p = err_from_is_err_and c.from_residual.result c.from_residual.ensures.1 in
    rw (p.1, p.2) (λ mid history e is follows seen observed known. ((subst EndsWithAnswer (sym is.events) (granted_answer events c.in_err-explain.ensures), Keeps-refl (g.W.Write.contents c.args.writer.now.inner)), tt))
