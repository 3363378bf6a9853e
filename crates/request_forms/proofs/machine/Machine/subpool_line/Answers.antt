use Rattle.std.proofs.Common.{◌-◌, ap, subst, refl, [], Option}
use Rattle.std.specs.Option.{unwrap_or}
use Rattle.mvs_model.specs.declared.name.Name.{Name}
use Rattle.task_owner.specs.Tasks.{name_of}
use Rattle.request_forms.specs.Reports.{HasNone}
use Rattle.request_forms.proofs.Reporting.{line_is, pool_fits}
use Rattle.request_forms.proofs.machine.Machine.subpool_line.Goals as goal

pub returns-in_err-number : goal.returns-in_err-number
returns-in_err-number c =
    let of_name = λ (v : Option Name). unwrap_or v [] in
    rw (c.from_residual-in_err-number.ensures, ← c.self.view_is) (subst (λ (name : Name). HasNone c.self.inside.tasks.owners name c.args.from 133) (ap of_name c.in_ok-t.ensures.named) c.in_err-number.ensures)

pub returns : goal.returns
returns c =
    let of_name = λ (v : Option Name). unwrap_or v [] in
    let first = c.in_ok-number.ensures in
    rw (← c.self.view_is)
    (line_is c.self.inside.pools c.self.inside.store.storage c.self.inside.tasks.owners (name_of c.self.inside.tasks c.in_ok-t.t) c.args.name.now c.args.from _ _ _ c.self.invariant (ap of_name c.in_ok-t.ensures.named) first.0 first.1 first.2 first.3 refl c.owns.ensures
    (c.pool_bytes-pool.ensures c.self.inside.tasks.owners) (ap (λ n. n - c.pool_bytes-pool.result) c.held_bytes.ensures))

pub overflow_sub-result : goal.overflow_sub-result
overflow_sub-result c = pool_fits c.self.inside.pools c.self.inside.store.storage _ c.self.inside.tasks.owners _ _ c.self.invariant (c.pool_bytes-pool.ensures c.self.inside.tasks.owners) c.held_bytes.ensures
