use Rattle.std.proofs.Common.{ap, ◌∙◌}
use Rattle.mvs_model.specs.Owners.{entry}
use Rattle.mvs_model.specs.Storage.{is_one_of}
use Rattle.request_forms.proofs.Ending.{found_name}
use Rattle.request_forms.proofs.Owning.{has_correct, none_correct}
use Rattle.request_forms.proofs.machine.Machine.subpools_of.Goals as goal

pub returns-in-Some : goal.returns-in-Some
returns-in-Some c = rw (← c.self.view_is) (λ s.
    let tasks = c.self.inside.tasks in
    let t = c.args.task.now in
    has_correct tasks.owners t s (is_one_of c.subpools_among.result s) c.entries.result.now c.in-Some.ensures.active c.entries.ensures.len
    (λ n low. c.entries.ensures.entries n low ∙ ap (λ x. entry tasks.owners x n) (found_name tasks c.in-Some.t t c.in-Some.ensures.named)) (c.subpools_among.ensures s))

pub returns-in-None : goal.returns-in-None
returns-in-None c = rw (← c.self.view_is) (λ s.
    ap (λ xs. is_one_of xs s) c.empty.ensures ∙ none_correct c.self.inside.tasks.owners c.args.task.now s c.in-None.ensures.active)
