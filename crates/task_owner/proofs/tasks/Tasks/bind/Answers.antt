use Rattle.std.proofs.Common.{◌<◌, ◌∙◌, [], ap, arith, is_some, length, length-set, Some, unwrap_or}
use Rattle.mvs_model.specs.Owners.{entry}
use Rattle.task_owner.specs.declared.task_slot.Owned.{Owned}
use Rattle.task_owner.proofs.tasks.Tasks.bind.Goals as goal
use Rattle.task_owner.proofs.Reading.{is_seat}
use Rattle.task_owner.proofs.Keepers.{keeper_place}
use Rattle.task_owner.proofs.Bound.{bound, bound_of}

pub enter-requires-clause-there : goal.enter-requires-clause-there
enter-requires-clause-there c = is_seat _ _ _ _ _ c.self.view_is c.effective_task.view_is (ap is_some c.effective_task-effective_task.ensures)

pub invariant_of-self : goal.invariant_of-self
invariant_of-self c =
    let range : c.get.result < length c.self.inside.owned.items = omega (arith, c.self.invariant.1, c.get.ensures.low) in
    let o : Owned = record { owner = c.effective_task.inside.key; number = c.get-number.result } in
    let keeper_is = ap (λ q. unwrap_or q []) c.effective_task-effective_task.ensures in (
      (bound c.self.inside.active c.enter.new.active _ _ _ _ c.self.view_is c.effective_task.view_is c.self.invariant.0 (ap is_some c.effective_task-effective_task.ensures) _ _ _ _ c.get-number.ensures.value c.get-number.ensures.low
          (keeper_place _ _ _ c.self.view_is c.self.invariant.0 _ _ _ _ _ c.effective_task.view_is keeper_is c.get-number.ensures.value c.get-number.ensures.valid)
          c.get.ensures.value range (ap (λ q. entry c.args.self.now.owners q c.args.number) keeper_is ∙ c.requires.none) c.requires.spare c.enter.ensures.entered c.enter.ensures.fits c.enter.ensures.others).sound,
      length-set c.self.inside.owned.items c.get.result (Some o) ∙ c.self.invariant.1,
      omega (arith, c.enter.ensures.len, c.self.invariant.2),
      omega (arith, c.enter.ensures.capacity, c.self.invariant.3),
    )

pub returns : goal.returns
returns c =
    let range : c.get.result < length c.self.inside.owned.items = omega (arith, c.self.invariant.1, c.get.ensures.low) in
    let keeper_is = ap (λ q. unwrap_or q []) c.effective_task-effective_task.ensures in
    let r = bound_of c.self.inside.active c.enter.new.active _ _ _ _ c.self.view_is c.effective_task.view_is c.self.invariant.0 (ap is_some c.effective_task-effective_task.ensures) _ _ _ _ c.get-number.ensures.value c.get-number.ensures.low
    (keeper_place _ _ _ c.self.view_is c.self.invariant.0 _ _ _ _ _ c.effective_task.view_is keeper_is c.get-number.ensures.value c.get-number.ensures.valid)
    c.get.ensures.value range (ap (λ q. entry c.args.self.now.owners q c.args.number) keeper_is ∙ c.requires.none) c.requires.spare c.enter.ensures.entered c.enter.ensures.fits c.enter.ensures.others
    _ keeper_is in
    record { binds = r.binds; names = r.names }
