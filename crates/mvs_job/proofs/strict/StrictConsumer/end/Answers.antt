use Rattle.mvs_job.proofs.Strictly.{observes_end, result_maps}
use Rattle.mvs_job.proofs.strict.StrictConsumer.end.Goals as goal

pub returns-clause-accepted : goal.returns-clause-accepted
returns-clause-accepted g c first history e is in_step follows known =
    let a = c.end.ensures.accepted first.consumer.now history e is in_step follows known.1 in
    result_maps c.end.result _ _ _ _ (λ _ h. (h.0, (known.0, h.1, observes_end first.all_served c.args.self.now.all_served _ _ history c.args.line_number c.args.end e is known.2))) (λ _ h. (h.0, (known.0, known.2))) a
