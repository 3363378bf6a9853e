use Rattle.std.proofs.Common.{length, List, ℕ, ap, sym, ◌∙◌, subst}
use Rattle.mvs_model.specs.Changes.{Granted}
use Rattle.mvs_model.specs.Place.{PlaceValue, place_at}
use Rattle.subpool_store.specs.WrittenBytes.{Puts}
use Rattle.request_forms.specs.Machine.{machine_state}
use Rattle.request_forms.proofs.Accessing.{put_denied, put_done}
use Rattle.request_forms.proofs.machine.Machine.put.Goals as goal

pub returns-then-not-written : goal.returns-then-not-written
returns-then-not-written c = λ t.
    let st = machine_state c.self.inside.pools c.self.inside.store.storage c.self.inside.tasks.owners in
    let place = c.new-place.ensures ∙ ap (place_at c.args.to) c.len.ensures.len in
    let none = c.if-not-written.ensures.written c.self.inside.tasks.owners in
    rw (none.1, ← c.self.view_is) (put_denied c.self.inside.pools c.self.inside.store.storage c.self.invariant c.self.inside.tasks.owners t c.args.to c.args.bytes.now (λ may. none.0 (subst (Granted st) (sym place) may)))

pub returns : goal.returns
returns c = λ t. rw (← c.self.view_is) (
    let st = machine_state c.self.inside.pools c.self.inside.store.storage c.self.inside.tasks.owners in
    let bytes = c.args.bytes.now in
    let place = c.new-place.ensures ∙ ap (place_at c.args.to) c.len.ensures.len in
    let done = c.if-not-written.ensures.written c.self.inside.tasks.owners in
    let puts = subst (λ (w : List ℕ). Puts c.self.inside.store.storage (place_at c.args.to (length bytes)) w c.write_where_granted-written.new.store.storage) c.as_slice-bytes.ensures.items (subst (λ (p : PlaceValue). Puts c.self.inside.store.storage p c.as_slice-bytes.result.now c.write_where_granted-written.new.store.storage) place done.1) in
    put_done c.self.inside.pools c.self.inside.store.storage c.self.invariant c.self.inside.tasks.owners t c.write_where_granted-written.new.store.storage c.args.to bytes (subst (Granted st) place done.0) puts)
