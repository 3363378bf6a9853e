use Rattle.std.proofs.Common.{ℕ, ap, refl, ◌∙◌}
use Rattle.mvs_model.specs.Requests.{Plan, residence_of}
use Rattle.mvs_model.specs.Want.{side_of}
use Rattle.mvs_model.specs.declared.want.Side.{Side}
use Rattle.task_owner.specs.Tasks.{name_of}
use Rattle.request_forms.specs.Machine.{MachineValue, task_name}
use Rattle.request_forms.proofs.Building.{residence_seen}
use Rattle.request_forms.proofs.machine.Machine.plan.Goals as goal

abbrev planned : ℕ → ℕ → ℕ → Side → Plan
planned size primary secondary side = record { cell_size = size; primary = primary; secondary = secondary; side = side }

pub returns : goal.returns
returns c =
    let o = c.self.inside.tasks.owners in
    let resides = residence_seen o o (name_of c.self.inside.tasks c.args.t) c.residence.result c.residence.ensures refl ∙ ap (λ (m : MachineValue). residence_of m.state.owners (task_name m c.args.t)) c.self.view_is in
    ap (planned c.args.size c.args.primary c.args.secondary) (c.side.ensures ∙ ap (side_of c.args.loc) resides)
