use Rattle.std.proofs.Common.{◌≡◌, ◌∙◌, ap, inl, inr, sym, rules, true, false, []}
use Rattle.std.proofs.KnownBytes.{Keeps-refl}
use Rattle.std.proofs.lemmas.Result.{err_from_is_err_and}
use Rattle.std.specs.List.{list_any}
use Rattle.mvs_job.specs.LineEvents.{events_of_line}
use Rattle.mvs_job.proofs.Strictly.{result_maps}
use Rattle.area_history.specs.Reporting.{after_first_line, with_leaks}
use Rattle.area_history.specs.Ledgers.{ledger_from, no_step, leaks_at, some_leak}
use Rattle.area_history.proofs.Reported.{begins_too, ends_as, knows_next, no_report, now_leaked, piece_maps, report_between, same_leaked, some_so, until_maps}
use Rattle.area_history.proofs.Wrapped.{account_sees, consumer_sees, found_between, granted_is, leaked_kept, line_ledger, name_kept, none_ends, none_left, wrapped}
use Rattle.area_history.proofs.reporter.ReporterConsumer.entry.Goals as goal
use Rattle.area_history.proofs.reporter.ReporterConsumer.entry.Goals.{then-not-ends_step-via-then-not-ends_step, then-not-ends_step-via-else-not-ends_step+then-not-is_some}

pub returns-in_err-keep-clause-accepted : goal.returns-in_err-keep-clause-accepted
returns-in_err-keep-clause-accepted g c first mid history e is follows seen heard known =
    let self = c.args.self.now in
    let n = c.args.line_number in
    let line = c.args.line.now in
    let w = c.args.walk.now in
    let t = c.args.line_event.now in
    let account = account_sees g.C.Observer.heard mid self e.before line t w heard in
    let lacks = c.in_err-keep.ensures.err in
    let p = err_from_is_err_and c.from_residual.result c.from_residual.ensures.1 in
    rw (p.1, p.2) ((inr (inl (λ none. lacks (granted_is n line w t e is mid.account self.account seen.1 account ∙ none))), Keeps-refl _), name_kept g.C.Observer.heard mid self e.before line t w heard ∙ known.0)

pub returns-then-not-ends_step-clause-accepted : goal.returns-then-not-ends_step-clause-accepted
returns-then-not-ends_step-clause-accepted g c first mid history e is follows seen heard known =
    let self = c.args.self.now in
    let n = c.args.line_number in
    let line = c.args.line.now in
    let w = c.args.walk.now in
    let t = c.args.line_event.now in
    let new = c.keep.new.self in
    let account = account_sees g.C.Observer.heard mid self e.before line t w heard in
    let kept = c.in_ok-keep.ensures.ok in
    let ends = c.ends_step.ensures n w in
    let none : some_leak (leaks_at history e) ≡ false = elim c.then-not-ends_step.branch [
      | then-not-ends_step-via-then-not-ends_step b ↦ none_ends n line w t e is mid.account self.account seen.1 account history c.ends_step.result ends b.if-not-ends_step.true
      | then-not-ends_step-via-else-not-ends_step+then-not-is_some b ↦ none_left n line w t e is mid.account self.account seen.1 account history new [] c.ends_step.result b.is_some.result known.2.ledger kept.found ends b.is_some.ensures b.if-not-is_some.true
    ] in
    let name = name_kept g.C.Observer.heard mid self e.before line t w heard ∙ known.0 in
    let knows = knows_next first.has_leaked mid.has_leaked self.has_leaked mid.account new history e known.2 (line_ledger n line w t e is mid.account self.account seen.1 account (ledger_from no_step history) new known.2.ledger kept) (leaked_kept g.C.Observer.heard mid self e.before line t w heard ∙ same_leaked mid.has_leaked (leaks_at history e) none) in
    result_maps c.entry.result _ _ _ _
    (λ x h. (piece_maps g.C.Consumer.piece (with_leaks g.F.ReportFormat.report g.C.Consumer.piece) _ _ history e (λ text m. (text, m, no_report g.F.ReportFormat.report history e text none)) (λ x. inl x) h.0, (name, h.1, knows)))
    (λ why h. (until_maps g.C.Consumer.piece (with_leaks g.F.ReportFormat.report g.C.Consumer.piece) _ _ history e (λ text m. (text, m, no_report g.F.ReportFormat.report history e text none)) (λ x. inl x) why h.0, name))
    (c.entry.ensures.accepted first.consumer.now mid.consumer.now history e is follows seen.0 (consumer_sees g.C.Observer.heard mid self e.before line t w heard) known.1)

pub returns-clause-accepted : goal.returns-clause-accepted
returns-clause-accepted g c first mid history e is follows seen heard known =
    let self = c.args.self.now in
    let n = c.args.line_number in
    let line = c.args.line.now in
    let w = c.args.walk.now in
    let t = c.args.line_event.now in
    let new = c.keep.new.self in
    let report = g.F.ReportFormat.report in
    let account = account_sees g.C.Observer.heard mid self e.before line t w heard in
    let kept = c.in_ok-keep.ensures.ok in
    let ends = sym (c.ends_step.ensures n w) ∙ c.if-not-ends_step.false in
    let found = found_between n line w t e is mid.account self.account seen.1 account history new known.2.ledger kept.found ends in
    let stops = ends_as n line e w t is ∙ ends in
    let begins = begins_too n line w e mid.account self.account seen.1 t is ends in
    let some = sym c.is_some.ensures ∙ c.if-not-is_some.false in
    let a = c.in-Ok.ensures.accepted first.consumer.now mid.consumer.now history e is follows seen.0 (consumer_sees g.C.Observer.heard mid self e.before line t w heard) known.1 in
    let items : c.deref.result.now ≡ a.0.0 = (let written = a.0.2 in search rules) in
    let name = name_kept g.C.Observer.heard mid self e.before line t w heard ∙ known.0 in
    let leaked = some_so report history e [] new.found stops found in
    let knows = knows_next first.has_leaked mid.has_leaked true mid.account new history e known.2 (line_ledger n line w t e is mid.account self.account seen.1 account (ledger_from no_step history) new known.2.ledger kept) (now_leaked mid.has_leaked (leaks_at history e) (sym leaked ∙ some)) in
    ((after_first_line (report new.found) c.deref.result.now, (a.0.0, a.0.1, ap (after_first_line (report new.found)) items ∙ report_between report history e a.0.0 new.found stops found some begins), c.in_ok-print_with_report.ensures.bytes), (name, a.1, knows))

pub returns-in_err-print_with_report-clause-accepted : goal.returns-in_err-print_with_report-clause-accepted
returns-in_err-print_with_report-clause-accepted g c first mid history e is follows seen heard known =
    let self = c.args.self.now in
    let n = c.args.line_number in
    let line = c.args.line.now in
    let w = c.args.walk.now in
    let t = c.args.line_event.now in
    let new = c.keep.new.self in
    let report = g.F.ReportFormat.report in
    let account = account_sees g.C.Observer.heard mid self e.before line t w heard in
    let kept = c.in_ok-keep.ensures.ok in
    let ends = sym (c.ends_step.ensures n w) ∙ c.if-not-ends_step.false in
    let found = found_between n line w t e is mid.account self.account seen.1 account history new known.2.ledger kept.found ends in
    let stops = ends_as n line e w t is ∙ ends in
    let begins = begins_too n line w e mid.account self.account seen.1 t is ends in
    let some = sym c.is_some.ensures ∙ c.if-not-is_some.false in
    let a = c.in-Ok.ensures.accepted first.consumer.now mid.consumer.now history e is follows seen.0 (consumer_sees g.C.Observer.heard mid self e.before line t w heard) known.1 in
    let items : c.deref.result.now ≡ a.0.0 = (let written = a.0.2 in search rules) in
    let name = name_kept g.C.Observer.heard mid self e.before line t w heard ∙ known.0 in
    let p = err_from_is_err_and c.from_residual-in_err-print_with_report.result c.from_residual-in_err-print_with_report.ensures.1 in
    rw (p.1, p.2) ((after_first_line (report new.found) c.deref.result.now, (a.0.0, a.0.1, ap (after_first_line (report new.found)) items ∙ report_between report history e a.0.0 new.found stops found some begins), c.in_err-print_with_report.ensures.bytes), name)
