use Rattle.std.proofs.Common.{◌≡◌, ◌++◌, ◌∙◌, ap, inl, inr, refl, sym, subst, []}
use Rattle.std.proofs.KnownBytes.{Appends-trans, Keeps-refl}
use Rattle.std.proofs.lemmas.Result.{err_from_is_err_and}
use Rattle.line_text.proofs.Appending.{front_more}
use Rattle.mvs_job.specs.LineEvents.{events_of_line}
use Rattle.area_history.specs.Chronicles.{IsHistory, history_of}
use Rattle.area_history.specs.Histories.{FoundAt, events_at, findings_of, found_in, history_from, no_history, stays_at, with_history}
use Rattle.area_history.specs.Ledgers.{granted_at}
use Rattle.area_history.proofs.Recording.{chronicle_sees, consumer_sees, findings_are, history_snoc, history_stays, kept_as, line_found, longer, name_kept, needs_some, next_history, stays_are, until_longer}
use Rattle.area_history.proofs.historian.HistorianConsumer.entry.Goals as goal

pub returns-in_err-keep-clause-accepted : goal.returns-in_err-keep-clause-accepted
returns-in_err-keep-clause-accepted g c first mid history e is follows seen observed known =
    let self = c.args.self.now in
    let n = c.args.line_number in
    let line = c.args.line.now in
    let w = c.args.walk.now in
    let t = c.args.line_event.now in
    let lacks = c.in_err-keep.ensures.err is.request in
    let p = err_from_is_err_and c.from_residual.result c.from_residual.ensures.1 in
    rw (p.1, p.2) ((inr (needs_some n line w t e is c.settle.new.self lacks), Keeps-refl _), name_kept g.C.Observer.heard mid self e.before line t w observed ∙ known.0)

pub returns-in_err-entry-clause-accepted : goal.returns-in_err-entry-clause-accepted
returns-in_err-entry-clause-accepted g c first mid history e is follows seen observed known =
    let self = c.args.self.now in
    let line = c.args.line.now in
    let w = c.args.walk.now in
    let t = c.args.line_event.now in
    let heard = chronicle_sees g.C.Observer.heard mid self e.before line t w observed in
    let found = subst (λ h. FoundAt h e.before e.kind (found_in self.chronicle.found)) known.2 (line_found mid.chronicle self.chronicle seen.1 c.args.line_number line w e t is.of_line heard) in
    let a = c.in_err-entry.ensures.accepted first.consumer.now mid.consumer.now history e is follows seen.0 (consumer_sees g.C.Observer.heard mid self e.before line t w observed) known.1 in
    let p = err_from_is_err_and c.from_residual-in_err-entry.result c.from_residual-in_err-entry.ensures.1 in
    rw (p.1, p.2) (until_longer g.F.ReportFormat.findings g.C.Consumer.piece history e (found_in self.chronicle.found) found _ _ _ a.0, name_kept g.C.Observer.heard mid self e.before line t w observed ∙ known.0)

pub returns-clause-accepted : goal.returns-clause-accepted
returns-clause-accepted g c first mid history e is follows seen observed known =
    let self = c.args.self.now in
    let n = c.args.line_number in
    let line = c.args.line.now in
    let w = c.args.walk.now in
    let t = c.args.line_event.now in
    let l = history_from no_history history in
    let new = c.keep.new.self in
    let heard = chronicle_sees g.C.Observer.heard mid self e.before line t w observed in
    let found = subst (λ h. FoundAt h e.before e.kind (found_in self.chronicle.found)) known.2 (line_found mid.chronicle self.chronicle seen.1 n line w e t is.of_line heard) in
    let a = c.in_ok-entry.ensures.accepted first.consumer.now mid.consumer.now history e is follows seen.0 (consumer_sees g.C.Observer.heard mid self e.before line t w observed) known.1 in
    let stays = ap (λ f. f.stays) c.keep.ensures.found ∙ c.settle.ensures.stays n ∙ stays_are n line w t e is (history_of self.chronicle) l (history_stays n line w t e is mid.chronicle self.chronicle heard ∙ known.2) in
    let findings = findings_are new.found (found_in self.chronicle.found) (stays_at l e) (ap found_in c.keep.ensures.found ∙ c.settle.ensures.found) stays in
    let kept = kept_as self.chronicle c.settle.new.self new n w.read (events_of_line n w t) w.step c.settle.ensures.same (c.in_ok-keep.ensures.ok is.request) in
    let next = next_history n line w t e is mid.chronicle self.chronicle heard l new known.2 kept in
    let name = name_kept g.C.Observer.heard mid self e.before line t w observed ∙ known.0 in
    ((a.0.0 ++ g.F.ReportFormat.findings (findings_of (found_in self.chronicle.found) (stays_at l e)), longer g.F.ReportFormat.findings g.C.Consumer.piece history e (found_in self.chronicle.found) found a.0.0 a.0.1, Appends-trans _ _ _ a.0.0 _ a.0.2 (rw (findings) at c.in_ok-print_findings.ensures.bytes)), (name, a.1, next ∙ sym (history_snoc no_history history e)))

pub returns-in_err-print_findings-clause-accepted : goal.returns-in_err-print_findings-clause-accepted
returns-in_err-print_findings-clause-accepted g c first mid history e is follows seen observed known =
    let self = c.args.self.now in
    let n = c.args.line_number in
    let line = c.args.line.now in
    let w = c.args.walk.now in
    let t = c.args.line_event.now in
    let l = history_from no_history history in
    let new = c.keep.new.self in
    let heard = chronicle_sees g.C.Observer.heard mid self e.before line t w observed in
    let found = subst (λ h. FoundAt h e.before e.kind (found_in self.chronicle.found)) known.2 (line_found mid.chronicle self.chronicle seen.1 n line w e t is.of_line heard) in
    let a = c.in_ok-entry.ensures.accepted first.consumer.now mid.consumer.now history e is follows seen.0 (consumer_sees g.C.Observer.heard mid self e.before line t w observed) known.1 in
    let stays = ap (λ f. f.stays) c.keep.ensures.found ∙ c.settle.ensures.stays n ∙ stays_are n line w t e is (history_of self.chronicle) l (history_stays n line w t e is mid.chronicle self.chronicle heard ∙ known.2) in
    let findings = findings_are new.found (found_in self.chronicle.found) (stays_at l e) (ap found_in c.keep.ensures.found ∙ c.settle.ensures.found) stays in
    let p = err_from_is_err_and c.from_residual-in_err-print_findings.result c.from_residual-in_err-print_findings.ensures.1 in
    rw (p.1, p.2) ((a.0.0 ++ g.F.ReportFormat.findings (findings_of (found_in self.chronicle.found) (stays_at l e)), longer g.F.ReportFormat.findings g.C.Consumer.piece history e (found_in self.chronicle.found) found a.0.0 a.0.1, front_more _ _ _ a.0.0 _ a.0.2 (rw (findings) at c.in_err-print_findings.ensures.bytes)), name_kept g.C.Observer.heard mid self e.before line t w observed ∙ known.0)
