use Rattle.std.proofs.Common.{◌≡◌, true, sym, subst, ◌∙◌}
use Rattle.std.specs.Prelude.{IfOk}
use Rattle.language_server.specs.Hovers.{IsReportIf, is_at_subpool}
use Rattle.language_server.specs.Reports.{IsReport}
use Rattle.language_server.proofs.document.Document.report_at.Goals as goal

pub returns-then-is_at_subpool : goal.returns-then-is_at_subpool
returns-then-is_at_subpool c =
    let yes : true ≡ is_at_subpool c.args.self.now c.args.spot c.args.spot.subject = sym c.if-is_at_subpool.true ∙ c.is_at_subpool.ensures in
    subst (λ b. IfOk c.report.result (λ report. IsReportIf b c.args.self.now c.args.spot report.items)) yes
    (subst (λ task. IfOk c.report.result (λ report. IsReport c.args.self.now c.args.spot.line task report.items)) c.spot_task.ensures c.report.ensures)
