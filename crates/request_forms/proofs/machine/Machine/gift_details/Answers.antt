use Rattle.std.proofs.Common.{◌≡◌, true, false, is_some, sym, ap, ◌∙◌}
use Rattle.std.specs.FinMap.{get}
use Rattle.task_owner.specs.Tasks.{name_of}
use Rattle.request_forms.proofs.machine.Machine.gift_details.Goals as goal

pub unreachable-requires-in-None : goal.unreachable-requires-in-None
unreachable-requires-in-None c =
    let some : is_some (get c.self.inside.tasks.owners.owner c.in-Some-entry.subpool) ≡ true =
    c.in-None.ensures.kept.has_owner (name_of c.self.inside.tasks c.args.t) c.in-Some.number c.in-Some-entry.subpool (sym c.entry.ensures ∙ c.in-Some-entry.is) in
    let f : false ≡ true = sym (ap is_some c.in-None.ensures.label) ∙ some in cc
