use Rattle.std.proofs.Common.{ap, subst, ◌∙◌}
use Rattle.std.proofs.lemmas.Result.{err_from_is_err_and}
use Rattle.std.specs.Io.KnownBytes.{Appends}
use Rattle.line_text.specs.Writing.{AppendsFront}
use Rattle.expected_answers.specs.ExpectedAnswers.{expected_of}
use Rattle.expected_answers.specs.Reports.{counts_of, report_of}
use Rattle.mvs_model.specs.Runs.{IsPrinting}
use Rattle.mvsjob.specs.Checking.{IsReported, checked_ending, line_of}
use Rattle.mvsjob.specs.ModeResult.{IsFaultOf}
use Rattle.job_script.proofs.Named.{mapped_ok}
use Rattle.mvsjob.proofs.answers.check_answers.Goals as goal

pub returns : goal.returns
returns g c =
    let script = c.args.script.now in
    let form = c.args.settings.now.form in
    let printed = c.printing_of-ran.result.1.items in
    let outcome = c.in_ok-outcome.outcome in
    let found = c.fault_of-faulty.result in
    let lines = rw (mapped_ok c.statements.result c.map_err.result _ _ c.map_err.ensures.cases c.in_ok-run.was) at c.statements.ensures in
    let ran = rw (mapped_ok c.printing_of-ran.result.0 c.map_err-2.result _ _ c.map_err-2.ensures.cases c.in_ok-outcome.was) at c.printing_of-ran.ensures in
    let report = mapped_ok c.report_answers.result c.map_err-3.result _ _ c.map_err-3.ensures.cases c.in_ok-report.was in
    let text = rw (report) at c.report_answers.ensures.text in
    let counted = rw (report) at c.report_answers.ensures.counts in
    let counts = counted ∙ ap (λ p. counts_of (expected_of script p)) c.deref-2.ensures.value in
    let written = subst (λ t. Appends (g.W.Write.contents c.args.writer.now.inner) (g.W.Write.contents c.write_all.new.writer.inner) t) c.deref-3.ensures.value c.in_ok-write_all.ensures.bytes in (
      c.in_ok-report.report.text.items,
      written,
      record {
        printed = printed;
        outcome = outcome;
        found = found;
        run = subst (λ s. IsPrinting s printed outcome) (c.deref.ensures.value ∙ lines) ran;
        fault = subst (λ s. IsFaultOf s outcome found) (c.deref-4.ensures.value ∙ lines) c.fault_of-faulty.ensures;
        report_is = text ∙ ap (λ p. report_of form.format form.is_hidden c.args.settings.now.file.now (expected_of script p)) c.deref-2.ensures.value;
        ending = c.ending_of.ensures ∙ ap (λ n. checked_ending n (line_of found)) counts;
        reported = subst (λ n. IsReported form.is_hidden n found c.reported.result) counts c.reported.ensures;
      },
    )

pub returns-in_err-write_all : goal.returns-in_err-write_all
returns-in_err-write_all g c =
    let script = c.args.script.now in
    let form = c.args.settings.now.form in
    let printed = c.printing_of-ran.result.1.items in
    let outcome = c.in_ok-outcome.outcome in
    let lines = rw (mapped_ok c.statements.result c.map_err.result _ _ c.map_err.ensures.cases c.in_ok-run.was) at c.statements.ensures in
    let ran = rw (mapped_ok c.printing_of-ran.result.0 c.map_err-2.result _ _ c.map_err-2.ensures.cases c.in_ok-outcome.was) at c.printing_of-ran.ensures in
    let text = rw (mapped_ok c.report_answers.result c.map_err-3.result _ _ c.map_err-3.ensures.cases c.in_ok-report.was) at c.report_answers.ensures.text in
    let report_is = c.deref-3.ensures.value ∙ text ∙ ap (λ p. report_of form.format form.is_hidden c.args.settings.now.file.now (expected_of script p)) c.deref-2.ensures.value in
    let front = subst (λ t. AppendsFront (g.W.Write.contents c.args.writer.now.inner) (g.W.Write.contents c.write_all.new.writer.inner) t) report_is c.in_err-write_all.ensures.bytes in
    let p = err_from_is_err_and c.from_residual-in_err-write_all.result c.from_residual-in_err-write_all.ensures.1 in
    rw (p.1, p.2) (printed, outcome, subst (λ s. IsPrinting s printed outcome) (c.deref.ensures.value ∙ lines) ran, front)
