use Rattle.std.proofs.Common.{ap, ◌∙◌}
use Rattle.mvs_model.specs.Changes.{Granted}
use Rattle.mvs_model.specs.Place.{place_at}
use Rattle.request_forms.specs.Machine.{machine_state}
use Rattle.request_forms.proofs.Accessing.{may_as, not_as, show_denied, show_done}
use Rattle.request_forms.proofs.machine.Machine.show.Goals as goal

pub returns-then-not-may_access : goal.returns-then-not-may_access
returns-then-not-may_access c = λ t. rw (← c.self.view_is) (
    let st = machine_state c.self.inside.pools c.self.inside.store.storage c.self.inside.tasks.owners in
    let place = c.new.ensures ∙ ap (place_at c.args.from) c.get.ensures.value in
    show_denied c.self.inside.pools c.self.inside.store.storage c.self.invariant c.self.inside.tasks.owners t c.args.from c.args.len
    (not_as (Granted st) c.may_access.result c.new.result (place_at c.args.from c.args.len) place (c.may_access.ensures.granted c.self.inside.tasks.owners) c.if-not-may_access.true))

pub returns : goal.returns
returns c = λ t. rw (← c.self.view_is) (
    let st = machine_state c.self.inside.pools c.self.inside.store.storage c.self.inside.tasks.owners in
    let place = c.new.ensures ∙ ap (place_at c.args.from) c.get.ensures.value in
    show_done c.self.inside.pools c.self.inside.store.storage c.self.invariant c.self.inside.tasks.owners t c.args.from c.args.len
    (may_as (Granted st) c.may_access.result c.new.result (place_at c.args.from c.args.len) place (c.may_access.ensures.granted c.self.inside.tasks.owners) c.if-not-may_access.false))
