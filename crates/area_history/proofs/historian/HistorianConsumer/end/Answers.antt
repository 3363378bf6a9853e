use Rattle.std.proofs.Common.{sym, ◌∙◌}
use Rattle.mvs_job.proofs.Strictly.{result_maps}
use Rattle.area_history.specs.Histories.{history_from, no_history}
use Rattle.area_history.proofs.Recording.{end_history, end_text, history_snoc}
use Rattle.area_history.proofs.historian.HistorianConsumer.end.Goals as goal

pub returns-clause-accepted : goal.returns-clause-accepted
returns-clause-accepted g c first history e is in_step follows known =
    let n = c.args.line_number in
    result_maps c.end.result _ _ _ _
    (λ x h. ((h.0.0, end_text n e g.F.ReportFormat.findings g.met.F.ReportFormat.quiet c.args.end g.C.Consumer.piece history h.0.0 is h.0.1, h.0.2), (known.0, h.1, known.2 ∙ end_history n e c.args.end (history_from no_history history) is ∙ sym (history_snoc no_history history e))))
    (λ x h. ((h.0.0, end_text n e g.F.ReportFormat.findings g.met.F.ReportFormat.quiet c.args.end g.C.Consumer.piece history h.0.0 is h.0.1, h.0.2), known.0))
    (c.end.ensures.accepted first.consumer.now history e is in_step follows known.1)
