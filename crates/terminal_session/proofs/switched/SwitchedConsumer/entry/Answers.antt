use Rattle.std.proofs.Common.{◌≡◌, ◌++◌, ◌∙◌, ap, inl, inr, refl, subst, sym}
use Rattle.std.proofs.KnownBytes.{Appends-trans, Keeps-refl}
use Rattle.std.proofs.lemmas.Result.{err_from_is_err_and}
use Rattle.std.specs.Io.KnownBytes.{Appends}
use Rattle.line_text.specs.Writing.{AppendsFront}
use Rattle.line_text.proofs.Appending.{front_more}
use Rattle.mvs_model.specs.Texts.{printing}
use Rattle.mvs_job.specs.Explained.{explained, set_by_entries}
use Rattle.mvs_job.specs.Looking.{IsLooking}
use Rattle.mvs_job.specs.LineEvents.{events_of_line}
use Rattle.mvs_job.specs.NamedAddress.{names_after}
use Rattle.mvs_job.proofs.AfterLines.{line_keeps}
use Rattle.mvs_job.proofs.ExplainedLine.{set_next}
use Rattle.area_history.specs.Chronicles.{history_of}
use Rattle.area_history.specs.Histories.{FoundAt, findings_of, found_in, history_from, no_history, stays_at, with_history}
use Rattle.area_history.specs.HistoryTexts.{findings_text}
use Rattle.area_history.proofs.Recording.{findings_are, history_snoc, history_stays, kept_as, line_found, longer, next_history, stays_are, until_longer}
use Rattle.area_history.proofs.Reported.{until_maps}
use Rattle.terminal_session.specs.Switching.{switched_history}
use Rattle.terminal_session.proofs.Switching.{chronicle_sees, explained_sees}
use Rattle.terminal_session.proofs.switched.SwitchedConsumer.entry.Goals as goal

pub returns-in_err-keep-clause-accepted : goal.returns-in_err-keep-clause-accepted
returns-in_err-keep-clause-accepted g c first mid history e is follows seen observed known =
    let p = err_from_is_err_and c.from_residual.result c.from_residual.ensures.1 in
    rw (p.1, p.2) ((tt, Keeps-refl _), tt)

pub returns-in_err-keep-2-clause-accepted : goal.returns-in_err-keep-2-clause-accepted
returns-in_err-keep-2-clause-accepted g c first mid history e is follows seen observed known =
    let p = err_from_is_err_and c.from_residual-in_err-keep-2.result c.from_residual-in_err-keep-2.ensures.1 in
    rw (p.1, p.2) ((tt, Keeps-refl _), tt)

pub returns-in_err-print_line-clause-accepted : goal.returns-in_err-print_line-clause-accepted
returns-in_err-print_line-clause-accepted g c first mid history e is follows seen observed known =
    let p = err_from_is_err_and c.from_residual-in_err-print_line.result c.from_residual-in_err-print_line.ensures.1 in
    rw (p.1, p.2) ((printing e.events, inl refl, subst (λ x. AppendsFront (g.W.Write.contents c.args.writer.now.inner) (g.W.Write.contents c.print_line.new.writer.inner) (printing x)) (sym is.events) c.in_err-print_line.ensures.bytes), tt)

pub returns-then-not-get-clause-accepted : goal.returns-then-not-get-clause-accepted
returns-then-not-get-clause-accepted g c first mid history e is follows seen observed known =
    let self = c.args.self.now in
    let n = c.args.line_number in
    let line = c.args.line.now in
    let w = c.args.walk.now in
    let t = c.args.line_event.now in
    let l = history_from no_history history in
    let heard = chronicle_sees mid self e.before line t w observed in
    let kept = kept_as self.chronicle c.settle.new.self c.keep.new.self n w.read (events_of_line n w t) w.step c.settle.ensures.same (c.in_ok-keep.ensures.ok is.request) in
    let next = next_history n line w t e is mid.chronicle self.chronicle heard l c.keep.new.self known.1 kept in
    let stays = line_keeps e.before w line mid.explained self.explained t (explained_sees mid self e.before line t w observed) in
    let set = ap (λ s. names_after n s w.read (events_of_line n w t)) (stays ∙ known.0) ∙ set_next n line w e history w.read is.read t is in
    ((printing e.events, inl refl, subst (λ x. Appends (g.W.Write.contents c.args.writer.now.inner) (g.W.Write.contents c.print_line.new.writer.inner) (printing x)) (sym is.events) c.in_ok-print_line.ensures.bytes), (c.in_ok-keep-2.ensures.lines ∙ set, next ∙ sym (history_snoc no_history history e)))

pub returns-in_err-entry-clause-accepted : goal.returns-in_err-entry-clause-accepted
returns-in_err-entry-clause-accepted g c first mid history e is follows seen observed known =
    let self = c.args.self.now in
    let n = c.args.line_number in
    let line = c.args.line.now in
    let w = c.args.walk.now in
    let t = c.args.line_event.now in
    let heard = chronicle_sees mid self e.before line t w observed in
    let found = subst (λ h. FoundAt h e.before e.kind (found_in self.chronicle.found)) known.1 (line_found mid.chronicle self.chronicle seen.1 n line w e t is.of_line heard) in
    let a = c.in_err-entry.ensures.accepted first.explained mid.explained history e is follows seen.0 (explained_sees mid self e.before line t w observed) known.0 in
    let p = err_from_is_err_and c.from_residual-in_err-entry.result c.from_residual-in_err-entry.ensures.1 in
    rw (p.1, p.2) (until_maps (with_history findings_text explained) switched_history _ _ history e (λ text m. inr m) (λ x. tt) _ (until_longer findings_text explained history e (found_in self.chronicle.found) found _ _ _ a.0), tt)

pub returns-clause-accepted : goal.returns-clause-accepted
returns-clause-accepted g c first mid history e is follows seen observed known =
    let self = c.args.self.now in
    let n = c.args.line_number in
    let line = c.args.line.now in
    let w = c.args.walk.now in
    let t = c.args.line_event.now in
    let l = history_from no_history history in
    let new = c.keep.new.self in
    let heard = chronicle_sees mid self e.before line t w observed in
    let found = subst (λ h. FoundAt h e.before e.kind (found_in self.chronicle.found)) known.1 (line_found mid.chronicle self.chronicle seen.1 n line w e t is.of_line heard) in
    let a = c.in_ok-entry.ensures.accepted first.explained mid.explained history e is follows seen.0 (explained_sees mid self e.before line t w observed) known.0 in
    let stays = ap (λ f. f.stays) c.keep.ensures.found ∙ c.settle.ensures.stays n ∙ stays_are n line w t e is (history_of self.chronicle) l (history_stays n line w t e is mid.chronicle self.chronicle heard ∙ known.1) in
    let findings = c.found.ensures ∙ findings_are new.found (found_in self.chronicle.found) (stays_at l e) (ap found_in c.keep.ensures.found ∙ c.settle.ensures.found) stays in
    let kept = kept_as self.chronicle c.settle.new.self new n w.read (events_of_line n w t) w.step c.settle.ensures.same (c.in_ok-keep.ensures.ok is.request) in
    let next = next_history n line w t e is mid.chronicle self.chronicle heard l new known.1 kept in
    ((a.0.0 ++ findings_text (findings_of (found_in self.chronicle.found) (stays_at l e)), inr (longer findings_text explained history e (found_in self.chronicle.found) found a.0.0 a.0.1), Appends-trans _ _ _ a.0.0 _ a.0.2 (rw (findings) at c.in_ok-print_findings.ensures.bytes)), (a.1, next ∙ sym (history_snoc no_history history e)))

pub returns-in_err-print_findings-clause-accepted : goal.returns-in_err-print_findings-clause-accepted
returns-in_err-print_findings-clause-accepted g c first mid history e is follows seen observed known =
    let self = c.args.self.now in
    let n = c.args.line_number in
    let line = c.args.line.now in
    let w = c.args.walk.now in
    let t = c.args.line_event.now in
    let l = history_from no_history history in
    let new = c.keep.new.self in
    let heard = chronicle_sees mid self e.before line t w observed in
    let found = subst (λ h. FoundAt h e.before e.kind (found_in self.chronicle.found)) known.1 (line_found mid.chronicle self.chronicle seen.1 n line w e t is.of_line heard) in
    let a = c.in_ok-entry.ensures.accepted first.explained mid.explained history e is follows seen.0 (explained_sees mid self e.before line t w observed) known.0 in
    let stays = ap (λ f. f.stays) c.keep.ensures.found ∙ c.settle.ensures.stays n ∙ stays_are n line w t e is (history_of self.chronicle) l (history_stays n line w t e is mid.chronicle self.chronicle heard ∙ known.1) in
    let findings = c.found.ensures ∙ findings_are new.found (found_in self.chronicle.found) (stays_at l e) (ap found_in c.keep.ensures.found ∙ c.settle.ensures.found) stays in
    let p = err_from_is_err_and c.from_residual-in_err-print_findings.result c.from_residual-in_err-print_findings.ensures.1 in
    rw (p.1, p.2) ((a.0.0 ++ findings_text (findings_of (found_in self.chronicle.found) (stays_at l e)), inr (longer findings_text explained history e (found_in self.chronicle.found) found a.0.0 a.0.1), front_more _ _ _ a.0.0 _ a.0.2 (rw (findings) at c.in_err-print_findings.ensures.bytes)), tt)
