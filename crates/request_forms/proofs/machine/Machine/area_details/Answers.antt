use Rattle.std.proofs.Common.{◌≡◌, sym, subst, ap}
use Rattle.mvs_model.specs.Changes.{ShortOf}
use Rattle.mvs_model.specs.Owners.{effective_task}
use Rattle.mvs_model.specs.Requests.{side_for}
use Rattle.mvs_model.specs.State.{State}
use Rattle.mvs_model.specs.Want.{want_of}
use Rattle.mvs_model.proofs.StorageLaws.{round8_some}
use Rattle.request_forms.specs.Refused.{AreaShort}
use Rattle.request_forms.specs.Machine.{MachineValue, machine_state, task_name}
use Rattle.request_forms.proofs.Obtaining.{want_seen}
use Rattle.request_forms.proofs.Refused.{not_short}
use Rattle.request_forms.proofs.machine.Machine.area_details.Goals as goal

pub unreachable-requires-in-None : goal.unreachable-requires-in-None
unreachable-requires-in-None c =
    let name = task_name c.args.self.now c.args.t in
    let short = subst (AreaShort c.args.self.now.state name) c.in-Obtain.is c.requires.short.1 in
    let form = c.in-Obtain.form in
    let ask = c.in-Obtain.ask in
    let o = c.self.inside.tasks.owners in
    let named = ap (λ (m : MachineValue). task_name m c.args.t) c.self.view_is in
    let wanted = subst (λ (st : State). c.want-want.result ≡ want_of ask (side_for st name form ask.loc)) (ap (λ (m : MachineValue). m.state) c.self.view_is) (want_seen (machine_state c.self.inside.pools c.self.inside.store.storage o) name _ form ask _ _ _ _ _ named c.residence-residence.ensures c.loc.ensures c.side.ensures c.form_side.ensures c.want-want.ensures.want) in
    let st = c.args.self.now.state in
    let n = c.in-Some.number in
    not_short st (effective_task st.owners name n) n c.subpool_for.result (want_of ask (side_for st name form ask.loc)) (round8_some ask.least c.want-want.ensures.some) c.subpool_for.ensures
    (subst (λ k. ShortOf st (effective_task st.owners name k) k (want_of ask (side_for st name form ask.loc))) (sym c.in-Some.ensures.1) short.1)
    (rw (wanted) at c.in-None.ensures.room)
