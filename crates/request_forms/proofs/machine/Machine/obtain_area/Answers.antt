use Rattle.std.proofs.Common.{◌≡◌, sym, ◌∙◌, ap, subst, refl}
use Rattle.std.specs.Prelude.{ℕ, IfSome, MatchOption, Some}
use Rattle.mvs_model.specs.Want.{WantValue}
use Rattle.mvs_model.specs.Changes.{GrantTo, ShortOf}
use Rattle.mvs_model.specs.Determined.{FollowsHint}
use Rattle.mvs_model.specs.Owners.{effective_task}
use Rattle.request_forms.specs.Machine.{machine_state}
use Rattle.task_owner.specs.Tasks.{name_of}
use Rattle.request_forms.proofs.Obtaining.{area_of, area_agrees, short_of_new, area_of_new, area_takes, bound_keeper, its_subpool, new_subpool, want_seen}
use Rattle.request_forms.proofs.machine.Machine.obtain_area.Goals as goal

pub returns-in-Some-clause-granted : goal.returns-in-Some-clause-granted
returns-in-Some-clause-granted c = rw (← c.self.view_is) (
    let o = c.self.inside.tasks.owners in
    let st = machine_state c.self.inside.pools c.self.inside.store.storage o in
    let wanted = want_seen st (name_of c.self.inside.tasks c.args.t) _ c.args.form c.args.ask.now _ _ _ _ _ refl c.residence.ensures c.loc.ensures c.side.ensures c.form_side.ensures c.want-want.ensures.want in
    let has = sym c.subpool.ensures ∙ c.in-Some.is in
    subst (λ (w : WantValue). MatchOption c.obtain.result (ShortOf st (effective_task o (name_of c.self.inside.tasks c.args.t) c.args.number) c.args.number w × (machine_state c.self.inside.pools c.obtain.new.self.storage o ≡ st))
    (λ p. GrantTo st (effective_task o (name_of c.self.inside.tasks c.args.t) c.args.number) c.args.number w p (machine_state c.self.inside.pools c.obtain.new.self.storage o))) wanted
    (area_of c.self.inside.pools _ c.obtain.new.self.storage o (effective_task o (name_of c.self.inside.tasks c.args.t) c.args.number) c.args.number c.in-Some.subpool c.want-want.result c.obtain.result c.self.invariant c.obtain.ensures.storage has c.obtain.ensures.grant))

pub returns-in_err-place-in-None-clause-granted : goal.returns-in_err-place-in-None-clause-granted
returns-in_err-place-in-None-clause-granted c = rw (c.from_residual.ensures, ← c.self.view_is) (
    let o = c.self.inside.tasks.owners in
    let st = machine_state c.self.inside.pools c.self.inside.store.storage o in
    let wanted = want_seen st (name_of c.self.inside.tasks c.args.t) _ c.args.form c.args.ask.now _ _ _ _ _ refl c.residence.ensures c.loc.ensures c.side.ensures c.form_side.ensures c.want-want.ensures.want in
    let none = sym c.subpool.ensures ∙ c.in-None.is in (
      subst (λ (w : WantValue). ShortOf st (effective_task o (name_of c.self.inside.tasks c.args.t) c.args.number) c.args.number w) wanted
          (short_of_new c.self.inside.pools _ o (effective_task o (name_of c.self.inside.tasks c.args.t) c.args.number) c.args.number c.spare-subpool.result c.want-want.result c.self.invariant none c.spare-subpool.ensures c.in_err-place-in-None.ensures.grant.0),
      ap (λ s. machine_state c.self.inside.pools s o) c.in_err-place-in-None.ensures.grant.1,
    ))

pub returns-in_ok-place-in-None-clause-granted : goal.returns-in_ok-place-in-None-clause-granted
returns-in_ok-place-in-None-clause-granted c = rw (← c.self.view_is) (
    let o = c.self.inside.tasks.owners in
    let st = machine_state c.self.inside.pools c.self.inside.store.storage o in
    let wanted = want_seen st (name_of c.self.inside.tasks c.args.t) _ c.args.form c.args.ask.now _ _ _ _ _ refl c.residence.ensures c.loc.ensures c.side.ensures c.form_side.ensures c.want-want.ensures.want in
    let none = sym c.subpool.ensures ∙ c.in-None.is in
    let binds = bound_keeper o (name_of c.self.inside.tasks c.args.t) _ c.args.number c.spare-subpool.result c.bind.new.self.owners refl c.bind.ensures.binds in
    subst (λ (w : WantValue). GrantTo st (effective_task o (name_of c.self.inside.tasks c.args.t) c.args.number) c.args.number w c.in_ok-place-in-None.place (machine_state c.self.inside.pools c.obtain-in-None.new.self.storage c.bind.new.self.owners)) wanted
    (area_of_new c.self.inside.pools _ c.obtain-in-None.new.self.storage o c.bind.new.self.owners (effective_task o (name_of c.self.inside.tasks c.args.t) c.args.number) c.args.number c.spare-subpool.result c.want-want.result c.in_ok-place-in-None.place
    c.self.invariant c.obtain-in-None.ensures.storage none c.spare-subpool.ensures binds c.in_ok-place-in-None.ensures.grant))

pub invariant_of-self : goal.invariant_of-self
invariant_of-self c = area_agrees c.self.inside.pools c.self.inside.store.storage c.obtain.new.self.storage c.in-Some.subpool c.want-want.result c.obtain.result c.self.invariant c.obtain.ensures.storage c.obtain.ensures.grant

pub invariant_of-self-in-None : goal.invariant_of-self-in-None
invariant_of-self-in-None c = area_agrees c.self.inside.pools c.self.inside.store.storage c.obtain-in-None.new.self.storage c.spare-subpool.result c.want-want.result c.obtain-in-None.result c.self.invariant c.obtain-in-None.ensures.storage c.obtain-in-None.ensures.grant

pub returns-in-Some-clause-hints : goal.returns-in-Some-clause-hints
returns-in-Some-clause-hints c = rw (← c.self.view_is) (
    let o = c.self.inside.tasks.owners in
    let st = machine_state c.self.inside.pools c.self.inside.store.storage o in
    let wanted = want_seen st (name_of c.self.inside.tasks c.args.t) _ c.args.form c.args.ask.now _ _ _ _ _ refl c.residence.ensures c.loc.ensures c.side.ensures c.form_side.ensures c.want-want.ensures.want in
    let has = sym c.subpool.ensures ∙ c.in-Some.is in
    let t = effective_task o (name_of c.self.inside.tasks c.args.t) c.args.number in
    subst (λ (w : WantValue). IfSome c.obtain.result (λ p. (a : ℕ) → c.args.hints ≡ Some a → FollowsHint st t c.args.number w a p)) wanted
    (area_takes c.self.inside.pools c.self.inside.store.storage o t c.args.number c.in-Some.subpool c.want-want.result c.args.hints c.obtain.result c.self.invariant (its_subpool o t c.args.number c.in-Some.subpool has) c.obtain.ensures.hint))

pub returns-in_ok-place-in-None-clause-hints : goal.returns-in_ok-place-in-None-clause-hints
returns-in_ok-place-in-None-clause-hints c = rw (← c.self.view_is) (
    let o = c.self.inside.tasks.owners in
    let st = machine_state c.self.inside.pools c.self.inside.store.storage o in
    let wanted = want_seen st (name_of c.self.inside.tasks c.args.t) _ c.args.form c.args.ask.now _ _ _ _ _ refl c.residence.ensures c.loc.ensures c.side.ensures c.form_side.ensures c.want-want.ensures.want in
    let none = sym c.subpool.ensures ∙ c.in-None.is in
    let t = effective_task o (name_of c.self.inside.tasks c.args.t) c.args.number in
    subst (λ (w : WantValue). (a : ℕ) → c.args.hints ≡ Some a → FollowsHint st t c.args.number w a c.in_ok-place-in-None.place) wanted
    (area_takes c.self.inside.pools c.self.inside.store.storage o t c.args.number c.spare-subpool.result c.want-want.result c.args.hints (Some c.in_ok-place-in-None.place) c.self.invariant (new_subpool o t c.args.number c.spare-subpool.result none c.spare-subpool.ensures) c.in_ok-place-in-None.ensures.hint))
