use Rattle.std.proofs.Common.{inl, sym, ◌∙◌}
use Rattle.mvs_job.specs.Printed.{printed}
use Rattle.mvs_job.proofs.ExplainedLine.{end_set}
use Rattle.mvs_job.proofs.Strictly.{result_maps}
use Rattle.area_history.specs.Histories.{history_from, no_history}
use Rattle.area_history.proofs.Recording.{end_history, history_snoc}
use Rattle.area_history.proofs.Reported.{front_maps, piece_maps}
use Rattle.terminal_session.specs.Switching.{switched_history}
use Rattle.terminal_session.proofs.switched.SwitchedConsumer.end.Goals as goal

pub returns-clause-accepted : goal.returns-clause-accepted
returns-clause-accepted g c first history e is in_step follows known =
    let n = c.args.line_number in
    result_maps c.end.result _ _ _ _
    (λ x h. (piece_maps printed switched_history _ _ history e (λ text m. inl m) (λ x. tt) h.0, (known.0 ∙ end_set n c.args.end e is history, known.1 ∙ end_history n e c.args.end (history_from no_history history) is ∙ sym (history_snoc no_history history e))))
    (λ x h. (front_maps printed switched_history _ _ history e (λ text m. inl m) (λ x. tt) h.0, tt))
    (c.end.ensures.accepted _ history e is in_step follows tt)
