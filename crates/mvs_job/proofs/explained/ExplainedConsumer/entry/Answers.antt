use Rattle.std.proofs.Common.{subst, sym, ◌∙◌, ap}
use Rattle.std.proofs.KnownBytes.{Keeps-refl}
use Rattle.std.proofs.lemmas.Result.{err_from_is_err_and}
use Rattle.mvs_job.specs.Explained.{set_by_entries}
use Rattle.mvs_job.specs.Explaining.{text_of_event}
use Rattle.mvs_job.specs.Looking.{IsLooking}
use Rattle.mvs_job.specs.NamedAddress.{names_after}
use Rattle.mvs_job.specs.LineEvents.{events_of_line}
use Rattle.mvs_job.proofs.AfterLines.{line_keeps}
use Rattle.mvs_job.proofs.ExplainedLine.{explained_text, needs_names, set_next}
use Rattle.mvs_job.proofs.explained.ExplainedConsumer.entry.Goals as goal

pub returns-in_err-keep-clause-accepted : goal.returns-in_err-keep-clause-accepted
returns-in_err-keep-clause-accepted g c first mid history e is follows seen observed known =
    let n = c.args.line_number in
    let line = c.args.line.now in
    let w = c.args.walk.now in
    let t = c.args.line_event.now in
    let after = c.args.self.now in
    let x = c.keep.new.self in
    let stays = line_keeps e.before w line mid after t observed in
    let lacks = c.in_err-keep.ensures.err in
    let p = err_from_is_err_and c.from_residual.result c.from_residual.ensures.1 in
    rw (p.1, p.2) ((needs_names n line w e w.read is.read lacks.0 t lacks.1 is, Keeps-refl _), tt)

pub returns-clause-accepted : goal.returns-clause-accepted
returns-clause-accepted g c first mid history e is follows seen observed known =
    let n = c.args.line_number in
    let line = c.args.line.now in
    let w = c.args.walk.now in
    let t = c.args.line_event.now in
    let after = c.args.self.now in
    let x = c.keep.new.self in
    let stays = line_keeps e.before w line mid after t observed in
    let look = subst (λ set. IsLooking e.before set w.read mid) known seen in
    let may = explained_text n line w e (set_by_entries history) mid after x look c.keep.ensures.why c.keep.ensures.naming t c.keep.ensures.reason is observed in
    let set = ap (λ s. names_after n s w.read (events_of_line n w t)) (stays ∙ known) ∙ set_next n line w e history w.read is.read t is in
    ((text_of_event x n w t, may, c.in_ok-print.ensures.printed.bytes), c.print.ensures.lines ∙ c.in_ok-keep.ensures.lines ∙ set)

pub returns-in_err-print-clause-accepted : goal.returns-in_err-print-clause-accepted
returns-in_err-print-clause-accepted g c first mid history e is follows seen observed known =
    let n = c.args.line_number in
    let line = c.args.line.now in
    let w = c.args.walk.now in
    let t = c.args.line_event.now in
    let after = c.args.self.now in
    let x = c.keep.new.self in
    let stays = line_keeps e.before w line mid after t observed in
    let look = subst (λ set. IsLooking e.before set w.read mid) known seen in
    let may = explained_text n line w e (set_by_entries history) mid after x look c.keep.ensures.why c.keep.ensures.naming t c.keep.ensures.reason is observed in
    let p = err_from_is_err_and c.from_residual-in_err-print.result c.from_residual-in_err-print.ensures.1 in
    rw (p.1, p.2) ((text_of_event x n w t, may, c.in_err-print.ensures.printed.bytes), tt)
