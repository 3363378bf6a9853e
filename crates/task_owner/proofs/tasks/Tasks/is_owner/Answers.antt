use Rattle.std.proofs.Common.{◌<◌, length, ◌∙◌, arith}
use Rattle.task_owner.proofs.tasks.Tasks.is_owner.Goals as goal
use Rattle.task_owner.proofs.Places.{read_at}
use Rattle.task_owner.proofs.Labels.{owns_some, owns_none}

pub returns-in-Some : goal.returns-in-Some
returns-in-Some c =
    let range : c.get.result < length c.self.inside.owned.items = omega (arith, c.self.invariant.1, c.get.ensures.low) in
    owns_some _ _ _ c.args.subpool c.self.view_is c.self.invariant.0 _ _ c.t.view_is c.requires c.in-Some.owned
    (read_at c.self.inside.owned.items c.get.result c.args.subpool c.index.result.now c.index.ensures c.get.ensures.value range ∙ c.in-Some.is)

pub returns-in-None : goal.returns-in-None
returns-in-None c =
    let range : c.get.result < length c.self.inside.owned.items = omega (arith, c.self.invariant.1, c.get.ensures.low) in
    owns_none _ _ _ c.args.subpool c.self.view_is c.self.invariant.0 _ _ c.t.view_is c.requires
    (read_at c.self.inside.owned.items c.get.result c.args.subpool c.index.result.now c.index.ensures c.get.ensures.value range ∙ c.in-None.is)
