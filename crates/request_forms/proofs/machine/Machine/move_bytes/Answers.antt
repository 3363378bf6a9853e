use Rattle.std.proofs.Common.{◌≡◌, ℕ, sym, subst, true, false, ◌∙◌, ap}
use Rattle.mvs_model.specs.Changes.{Granted}
use Rattle.mvs_model.specs.Place.{place_at}
use Rattle.mvs_model.specs.State.{State}
use Rattle.request_forms.specs.Access.{Copied}
use Rattle.request_forms.specs.Machine.{MachineValue, machine_state}
use Rattle.request_forms.proofs.Accessing.{held_place, copy_agrees, move_denied, move_done}
use Rattle.request_forms.proofs.machine.Machine.move_bytes.Goals as goal

pub returns-then-not-may_move : goal.returns-then-not-may_move
returns-then-not-may_move c = λ t. rw (← c.self.view_is) (
    move_denied c.self.inside.pools c.self.inside.store.storage c.self.invariant c.self.inside.tasks.owners t c.args.to c.args.from c.args.len (λ both.
    absurd (let f : c.may_move.result ≡ true = c.may_move.ensures.1 (
      subst (λ (st : State). Granted st (place_at c.args.to c.args.len)) (ap (λ (m : MachineValue). m.state) c.self.view_is) both.0,
      subst (λ (st : State). Granted st (place_at c.args.from c.args.len)) (ap (λ (m : MachineValue). m.state) c.self.view_is) both.1,
    ) in
    let g : true ≡ false = sym f ∙ c.if-not-may_move.true in cc)))

pub copy-requires-clause-target : goal.copy-requires-clause-target
copy-requires-clause-target c =
    held_place c.self.inside.pools c.self.inside.store.storage c.self.invariant c.self.inside.tasks.owners (place_at c.args.to c.get.result) c.get.ensures.low
    (subst (λ (n : ℕ). Granted (machine_state c.self.inside.pools c.self.inside.store.storage c.self.inside.tasks.owners) (place_at c.args.to n)) (sym c.get.ensures.value) (subst (λ (st : State). Granted st (place_at c.args.to c.args.len)) (sym (ap (λ (m : MachineValue). m.state) c.self.view_is)) (c.may_move.ensures.0 c.if-not-may_move.false).0))

pub copy-requires-clause-source : goal.copy-requires-clause-source
copy-requires-clause-source c =
    held_place c.self.inside.pools c.self.inside.store.storage c.self.invariant c.self.inside.tasks.owners (place_at c.args.from c.get.result) c.get.ensures.low
    (subst (λ (n : ℕ). Granted (machine_state c.self.inside.pools c.self.inside.store.storage c.self.inside.tasks.owners) (place_at c.args.from n)) (sym c.get.ensures.value) (subst (λ (st : State). Granted st (place_at c.args.from c.args.len)) (sym (ap (λ (m : MachineValue). m.state) c.self.view_is)) (c.may_move.ensures.0 c.if-not-may_move.false).1))

pub invariant_of-self : goal.invariant_of-self
invariant_of-self c =
    copy_agrees c.self.inside.pools c.self.inside.store.storage c.self.invariant c.self.inside.tasks.owners c.copy.new.store.storage c.args.to c.args.from c.get.result c.copy.ensures
    (subst (λ (n : ℕ). Granted (machine_state c.self.inside.pools c.self.inside.store.storage c.self.inside.tasks.owners) (place_at c.args.to n)) (sym c.get.ensures.value) (subst (λ (st : State). Granted st (place_at c.args.to c.args.len)) (sym (ap (λ (m : MachineValue). m.state) c.self.view_is)) (c.may_move.ensures.0 c.if-not-may_move.false).0))

pub returns : goal.returns
returns c = λ t. rw (← c.self.view_is) (
    let both = c.may_move.ensures.0 c.if-not-may_move.false in
    move_done c.self.inside.pools c.self.inside.store.storage c.self.invariant c.self.inside.tasks.owners t c.copy.new.store.storage c.args.to c.args.from c.args.len
    (subst (λ (st : State). Granted st (place_at c.args.to c.args.len)) (sym (ap (λ (m : MachineValue). m.state) c.self.view_is)) both.0)
    (subst (λ (st : State). Granted st (place_at c.args.from c.args.len)) (sym (ap (λ (m : MachineValue). m.state) c.self.view_is)) both.1)
    (subst (λ (n : ℕ). Copied c.self.inside.store.storage c.args.to c.args.from n c.copy.new.store.storage) c.get.ensures.value c.copy.ensures))
