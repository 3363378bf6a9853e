use Rattle.std.proofs.Common.{◌≡◌, true, false, ap, sym, subst, ◌∙◌}
use Rattle.mvs_model.specs.Changes.{Granted}
use Rattle.mvs_model.specs.Place.{place_at}
use Rattle.request_forms.specs.Machine.{machine_state}
use Rattle.request_forms.proofs.Accessing.{may_as, not_as}
use Rattle.request_forms.proofs.machine.Machine.may_move.Goals as goal

pub returns-then-not-may_access : goal.returns-then-not-may_access
returns-then-not-may_access c = rw (← c.self.view_is) (
    let st = machine_state c.self.inside.pools c.self.inside.store.storage c.self.inside.tasks.owners in
    let target = c.new.ensures ∙ ap (place_at c.args.to) c.get-len.ensures.value in (
      λ no. absurd (let f : false ≡ true = no in cc),
      λ both. absurd (not_as (Granted st) c.may_access.result c.new.result (place_at c.args.to c.args.len) target (c.may_access.ensures.granted c.self.inside.tasks.owners) c.if-not-may_access.true both.0),
    ))

pub returns : goal.returns
returns c = rw (← c.self.view_is) (
    let st = machine_state c.self.inside.pools c.self.inside.store.storage c.self.inside.tasks.owners in
    let target = c.new.ensures ∙ ap (place_at c.args.to) c.get-len.ensures.value in
    let source = c.new-2.ensures ∙ ap (place_at c.args.from) c.get-len.ensures.value in
    let test = c.may_access-2.ensures.granted c.self.inside.tasks.owners in (
      λ yes. (
        may_as (Granted st) c.may_access.result c.new.result (place_at c.args.to c.args.len) target (c.may_access.ensures.granted c.self.inside.tasks.owners) c.if-not-may_access.false,
        may_as (Granted st) c.may_access-2.result c.new-2.result (place_at c.args.from c.args.len) source test yes,
      ),
      λ both. test.1 (subst (Granted st) (sym source) both.1),
    ))
