use Rattle.std.proofs.Common.{◌≡◌, ◌/◌, map, Some, refl, sym, ap, subst, ◌∙◌, arith}
use Rattle.mvs_model.specs.Owners.{subpool_meant}
use Rattle.mvs_model.specs.State.{State}
use Rattle.mvs_model.specs.Requests.{whole}
use Rattle.mvs_model.specs.Reasons.{FirstUnheld, Holds, IsUnheld, owner_of, released}
use Rattle.request_forms.specs.Machine.{MachineValue, task_name}
use Rattle.request_forms.proofs.machine.Machine.unheld_details.Goals as goal

pub returns : goal.returns
returns c =
    let st = c.args.self.now.state in
    let name = task_name c.args.self.now c.args.t in
    let s = c.in-Some-subpool.subpool in
    let meant : subpool_meant st.owners name c.in-Some.number ≡ Some s =
    sym (c.subpool.ensures ∙ ap (λ n. subpool_meant c.self.inside.tasks.owners n c.in-Some.number) (ap (λ (m : MachineValue). task_name m c.args.t) c.self.view_is) ∙ ap (λ (st : State). subpool_meant st.owners name c.in-Some.number) (ap (λ (m : MachineValue). m.state) c.self.view_is)) ∙ c.in-Some-subpool.is in
    let h = c.in-Some-unheld_in.ensures c.self.inside.tasks.owners in
    let at = c.in-Some-unheld_in.at in
    let index : at / 8 ≡ h.0 = omega (arith, h.1) in (
      refl,
      (
        (
          h.0,
          h.1,
          subst (λ n. FirstUnheld st (subpool_meant st.owners name n) (map whole (released c.args.request.now)) h.0) (c.in-Some.ensures.1 ∙ c.number_of.ensures) (rw (meant, ← c.released.ensures) (subst (λ (st : State). IsUnheld st s (map whole c.released.result.now) h.0) (ap (λ (m : MachineValue). m.state) c.self.view_is) h.2)),
          subst (λ d. Holds st d c.holder.result) index c.holder.ensures,
        ),
        subst (λ n. c.owner_name.result ≡ owner_of st.owners (subpool_meant st.owners name n)) (c.in-Some.ensures.1 ∙ c.number_of.ensures) (rw (meant) c.owner_name.ensures),
      ),
    )
