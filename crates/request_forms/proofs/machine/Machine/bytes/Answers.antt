use Rattle.std.proofs.Common.{◌≡◌, ◌+◌, ap, refl, subst, sym, ◌∙◌, true, false, arith}
use Rattle.std.specs.FinMap.{get}
use Rattle.mvs_model.specs.State.{State}
use Rattle.mvs_model.specs.Changes.{Granted}
use Rattle.mvs_model.proofs.SeenAccess.{bytes_granted}
use Rattle.cell_pool.specs.Roots.{pools_of}
use Rattle.request_forms.specs.Machine.{MachineValue}
use Rattle.request_forms.proofs.Accessing.{held_place}
use Rattle.request_forms.proofs.machine.Machine.bytes.Goals as goal

pub returns-then-not-may_access-clause-granted : goal.returns-then-not-may_access-clause-granted
returns-then-not-may_access-clause-granted c =
    let s = c.self.inside in
    let state = (ap (λ (m : MachineValue). m.state) c.self.view_is) in (
      λ no. absurd (let e : false ≡ true = no in cc),
      λ granted. sym c.if-not-may_access.true ∙ (c.may_access.ensures.granted s.tasks.owners).1 (subst (λ (st : State). Granted st c.args.place) (sym state) granted),
    )

pub bytes-requires : goal.bytes-requires
bytes-requires c = held_place c.self.inside.pools c.self.inside.store.storage c.self.invariant c.self.inside.tasks.owners c.args.place c.may_access.ensures.some ((c.may_access.ensures.granted c.self.inside.tasks.owners).0 c.if-not-may_access.false)

pub returns-clause-granted : goal.returns-clause-granted
returns-clause-granted c =
    let s = c.self.inside in
    let state = (ap (λ (m : MachineValue). m.state) c.self.view_is) in (
      λ yes. subst (λ (st : State). Granted st c.args.place) state ((c.may_access.ensures.granted s.tasks.owners).0 c.if-not-may_access.false),
      λ granted. refl,
    )

pub returns-clause-bytes : goal.returns-clause-bytes
returns-clause-bytes c = λ k low.
    let s = c.self.inside in
    let state = (ap (λ (m : MachineValue). m.state) c.self.view_is) in
    let at = c.args.place.addr + k in
    c.bytes.ensures.bytes k low
    ∙ sym (bytes_granted s.store.storage s.tasks.owners (pools_of s.pools s.store.storage) c.self.invariant.parts.storage c.args.place ((c.may_access.ensures.granted s.tasks.owners).0 c.if-not-may_access.false) at (omega arith) (omega (arith, low)))
    ∙ ap (λ (st : State). get st.bytes at) state
