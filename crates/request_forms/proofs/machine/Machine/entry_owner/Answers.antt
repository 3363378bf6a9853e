use Rattle.std.proofs.Common.{sym, ap, ◌∙◌}
use Rattle.mvs_model.specs.Owners.{entry}
use Rattle.request_forms.proofs.Ending.{found_name}
use Rattle.request_forms.proofs.Owning.{had_correct, label_correct}
use Rattle.request_forms.proofs.machine.Machine.entry_owner.Goals as goal

pub returns : goal.returns
returns c = rw (← c.self.view_is) (
    let tasks = c.self.inside.tasks in
    let t = c.args.name.now in
    let s = c.in_ok-subpool.subpool in
    had_correct tasks.owners t c.args.number s c.label.result c.in_ok-t.ensures.active (ap (λ x. entry tasks.owners x c.args.number) (sym (found_name tasks c.in_ok-t.t t c.in_ok-t.ensures.named)) ∙ sym c.entry.ensures ∙ c.in_ok-subpool.was)
    (label_correct tasks.owners s c.label.result c.label.ensures.kept c.label.ensures.label))
