use Rattle.std.proofs.Common.{sym, ap, ◌∙◌}
use Rattle.mvs_model.specs.Owners.{subpool_meant}
use Rattle.task_owner.specs.Tasks.{name_of}
use Rattle.request_forms.proofs.Ending.{found_name}
use Rattle.request_forms.proofs.Owning.{label_correct, meant_correct}
use Rattle.request_forms.proofs.machine.Machine.resolved_owner.Goals as goal

pub returns : goal.returns
returns c = rw (← c.self.view_is) (
    let tasks = c.self.inside.tasks in
    let t = c.args.name.now in
    let id = c.in_ok-t.t in
    let s = c.in_ok-subpool.subpool in
    meant_correct tasks.owners t c.args.number s c.label.result (sym c.in_ok-number.ensures.0) c.in_ok-t.ensures.active
    (ap (λ x. subpool_meant tasks.owners x c.args.number) (sym (found_name tasks id t c.in_ok-t.ensures.named)) ∙ ap (subpool_meant tasks.owners (name_of tasks id)) (sym c.in_ok-number.ensures.1) ∙ sym c.subpool.ensures ∙ c.in_ok-subpool.was)
    (label_correct tasks.owners s c.label.result c.label.ensures.kept c.label.ensures.label))
