use Rattle.std.proofs.Common.{◌<◌, length, ap, ◌∙◌, is_some, arith}
use Rattle.mvs_model.specs.Owners.{entry}
use Rattle.task_owner.proofs.tasks.Tasks.label.Goals as goal
use Rattle.task_owner.proofs.Places.{read_at}
use Rattle.task_owner.proofs.Having.{is_number}
use Rattle.task_owner.proofs.Keeping.{kept_at}
use Rattle.task_owner.proofs.Labels.{labelled, unlabelled}

pub of-requires : goal.of-requires
of-requires c =
    let range : c.get.result < length c.self.inside.owned.items = omega (arith, c.self.invariant.1, c.get.ensures.low) in
    let o = read_at c.self.inside.owned.items c.get.result c.args.subpool c.index.result.now c.index.ensures c.get.ensures.value range ∙ c.in_ok-owned.was in
    let x = c.self.invariant.0.owners c.args.subpool c.in_ok-owned.owned o in
    is_number x.0 c.in_ok-owned.owned.number (c.self.invariant.0.places c.in_ok-owned.owned.owner c.in_ok-owned.owned.number c.args.subpool x.0 x.1 x.2)

pub seat_at-requires : goal.seat_at-requires
seat_at-requires c =
    let range : c.get.result < length c.self.inside.owned.items = omega (arith, c.self.invariant.1, c.get.ensures.low) in
    let o = read_at c.self.inside.owned.items c.get.result c.args.subpool c.index.result.now c.index.ensures c.get.ensures.value range ∙ c.in_ok-owned.was in
    ap is_some (c.self.invariant.0.owners c.args.subpool c.in_ok-owned.owned o).1

pub returns-clause-label : goal.returns-clause-label
returns-clause-label c =
    let range : c.get.result < length c.self.inside.owned.items = omega (arith, c.self.invariant.1, c.get.ensures.low) in
    let o = read_at c.self.inside.owned.items c.get.result c.args.subpool c.index.result.now c.index.ensures c.get.ensures.value range ∙ c.in_ok-owned.was in
    let both = labelled _ _ _ c.args.subpool c.self.view_is c.self.invariant.0 c.in_ok-owned.owned c.seat_at.result.now o c.seat_at.ensures in
    (both.0, ap (entry c.args.self.now.owners c.seat_at.result.now.name) c.of.ensures ∙ both.1)

pub returns-in_err-owned-clause-label : goal.returns-in_err-owned-clause-label
returns-in_err-owned-clause-label c =
    let range : c.get.result < length c.self.inside.owned.items = omega (arith, c.self.invariant.1, c.get.ensures.low) in
    rw c.from_residual.ensures (unlabelled _ _ _ c.args.subpool c.self.view_is (read_at c.self.inside.owned.items c.get.result c.args.subpool c.index.result.now c.index.ensures c.get.ensures.value range ∙ c.in_err-owned.was))

pub returns-clause-kept : goal.returns-clause-kept
returns-clause-kept c = kept_at _ _ _ c.self.view_is c.self.invariant.0 c.self.invariant.1 c.self.invariant.2

pub returns-in_err-owned-clause-kept : goal.returns-in_err-owned-clause-kept
returns-in_err-owned-clause-kept c = kept_at _ _ _ c.self.view_is c.self.invariant.0 c.self.invariant.1 c.self.invariant.2
