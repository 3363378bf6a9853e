use Rattle.std.proofs.Common.{◌≡◌, ◌++◌, ◌∙◌, Some, ap, inl, inr, refl, sym, subst, true, false, []}
use Rattle.std.specs.Prelude.{is_some}
use Rattle.std.proofs.KnownBytes.{Appends-trans}
use Rattle.std.proofs.lemmas.Result.{err_from_is_err_and}
use Rattle.line_text.proofs.Appending.{front_longer, front_more}
use Rattle.mvs_job.specs.declared.consumer.End.TheVariants as end
use Rattle.mvs_job.specs.Consuming.{EndsIn, IsEnd}
use Rattle.mvs_job.proofs.Strictly.{result_maps}
use Rattle.area_history.specs.Reporting.{with_leaks}
use Rattle.area_history.specs.Ledgers.{ledger_from, no_step, leaks_at, some_leak}
use Rattle.area_history.proofs.Ending.{end_ledger, found_last, last_longer, none_begun, quiet_end, stops_with}
use Rattle.area_history.proofs.Reported.{knows_next, ledger_kept, no_report, now_leaked, piece_maps, report_last, reported_text, same_leaked, some_so}
use Rattle.area_history.proofs.reporter.ReporterConsumer.end.Goals as goal

pub returns-in_err-end-clause-accepted : goal.returns-in_err-end-clause-accepted
returns-in_err-end-clause-accepted g c first history e is in_step follows known =
    let report = g.F.ReportFormat.report in
    let a = c.in_err-end.ensures.accepted first.consumer.now history e is in_step follows known.1 in
    let l = last_longer c.args.line_number e c.args.end report history a.0.0 is in
    let p = err_from_is_err_and c.from_residual.result c.from_residual.ensures.1 in
    rw (p.1) ((reported_text report history e a.0.0, (a.0.0, a.0.1, refl), rw (l.1) (front_longer _ _ a.0.0 l.0 a.0.2)), known.0)

pub returns-then-not-closes_step-clause-accepted : goal.returns-then-not-closes_step-clause-accepted
returns-then-not-closes_step-clause-accepted g c first history e is in_step follows known =
    let self = c.args.self.now in
    let report = g.F.ReportFormat.report in
    let n = c.args.line_number in
    let a = c.in_ok-end.ensures.accepted first.consumer.now history e is in_step follows known.1 in
    let none = quiet_end n e c.args.end history (sym c.closes_step.ensures ∙ c.if-not-closes_step.true) is in (
      piece_maps g.C.Consumer.piece (with_leaks report g.C.Consumer.piece) _ _ history e (λ text m. (text, m, no_report report history e text none)) (λ x. inl x) a.0,
      (known.0, a.1, knows_next first.has_leaked self.has_leaked self.has_leaked self.account self.account history e known.2 (end_ledger n e c.args.end self.account (ledger_from no_step history) is known.2.ledger) (same_leaked self.has_leaked (leaks_at history e) none)),
    )

pub returns-then-not-is_some-clause-accepted : goal.returns-then-not-is_some-clause-accepted
returns-then-not-is_some-clause-accepted g c first history e is in_step follows known =
    let self = c.args.self.now in
    let report = g.F.ReportFormat.report in
    let n = c.args.line_number in
    let new = c.settle.new.self in
    let on = sym c.closes_step.ensures ∙ c.if-not-closes_step.false in
    let found = found_last n e c.args.end c.args.walk.now history self.account new on in_step known.2.ledger c.settle.ensures.kept c.settle.ensures.found in
    let stops = stops_with n e c.args.end on is in
    let none = sym (some_so report history e [] new.found stops found) ∙ sym c.is_some.ensures ∙ c.if-not-is_some.true in
    let a = c.in_ok-end.ensures.accepted first.consumer.now history e is in_step follows known.1 in
    let ledger = ledger_kept self.account new (ledger_from no_step history) c.settle.ensures.kept known.2.ledger in (
      piece_maps g.C.Consumer.piece (with_leaks report g.C.Consumer.piece) _ _ history e (λ text m. (text, m, no_report report history e text none)) (λ x. inl x) a.0,
      (known.0, a.1, knows_next first.has_leaked self.has_leaked self.has_leaked self.account new history e known.2 (end_ledger n e c.args.end new (ledger_from no_step history) is ledger) (same_leaked self.has_leaked (leaks_at history e) none)),
    )

pub returns-clause-accepted : goal.returns-clause-accepted
returns-clause-accepted g c first history e is in_step follows known =
    let self = c.args.self.now in
    let report = g.F.ReportFormat.report in
    let n = c.args.line_number in
    let new = c.settle.new.self in
    let on = sym c.closes_step.ensures ∙ c.if-not-closes_step.false in
    let found = found_last n e c.args.end c.args.walk.now history self.account new on in_step known.2.ledger c.settle.ensures.kept c.settle.ensures.found in
    let stops = stops_with n e c.args.end on is in
    let some = sym c.is_some.ensures ∙ c.if-not-is_some.false in
    let leaked = some_so report history e [] new.found stops found in
    let begins = ap is_some (none_begun n e c.args.end is) in
    let a = c.in_ok-end.ensures.accepted first.consumer.now history e is in_step follows known.1 in
    let one = a.0.0 in
    let ledger = ledger_kept self.account new (ledger_from no_step history) c.settle.ensures.kept known.2.ledger in
    let knows = knows_next first.has_leaked self.has_leaked true self.account new history e known.2 (end_ledger n e c.args.end new (ledger_from no_step history) is ledger) (now_leaked self.has_leaked (leaks_at history e) (sym leaked ∙ some)) in
    result_maps c.print.result _ _ _ _
    (λ x h. ((one ++ report new.found, (one, a.0.1, report_last report history e one new.found stops found some begins), Appends-trans _ _ _ one (report new.found) a.0.2 h), (known.0, a.1, knows)))
    (λ x h. ((one ++ report new.found, (one, a.0.1, report_last report history e one new.found stops found some begins), front_more _ _ _ one (report new.found) a.0.2 h), known.0))
    c.print.ensures.bytes
