use Rattle.std.proofs.Common.{◌∙◌}
use Rattle.request_forms.proofs.Owning.{none_owned, some_owned}
use Rattle.request_forms.proofs.machine.Machine.owned_among.Goals as goal

pub returns-in_err-number : goal.returns-in_err-number
returns-in_err-number c = rw (c.from_residual.ensures, ← c.self.view_is) (λ t had.
    let s = c.self.inside in
    none_owned s.pools s.store.storage s.tasks.owners c.self.invariant c.args.subpool t c.in_err-number.ensures.label)

pub returns : goal.returns
returns c = rw (← c.self.view_is) (λ t had.
    let s = c.self.inside in
    some_owned s.pools s.store.storage s.tasks.owners c.self.invariant c.args.subpool _ _ c.label.ensures.kept c.in_ok-number.ensures.label.0 c.in_ok-number.ensures.label.1
    t _ _ _ (c.contains.ensures ∙ had c.args.subpool) c.held_bytes.ensures c.assigned_pages.ensures)
