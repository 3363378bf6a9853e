use Rattle.std.proofs.Common.{◌≡◌, ℕ, ◌*◌, ◌/◌, ap, sym, subst, ◌∙◌}
use Rattle.mvs_model.specs.Place.{place_at}
use Rattle.mvs_model.specs.Storage.{Covers}
use Rattle.cell_pool.specs.Cells.{HasPart, TouchesNone}
use Rattle.cell_pool.specs.Roots.{pools_of}
use Rattle.request_forms.proofs.Holding.{none_holds, part_holds, subpool_holds, unowned_holds}
use Rattle.request_forms.proofs.machine.Machine.holder.Goals as goal

pub unheld-requires : goal.unheld-requires
unheld-requires c = rw (← c.self.view_is) (none_holds c.self.inside.pools c.self.inside.store.storage c.self.inside.tasks.owners c.self.invariant (c.args.addr / 8) (sym c.held.ensures.held ∙ c.in_default.is))

pub returns-in-Some-part_in : goal.returns-in-Some-part_in
returns-in-Some-part_in c =
    let s = c.self.inside in
    let place : c.new-doubleword.result ≡ place_at (c.args.addr / 8 * 8) 8 = c.new-doubleword.ensures ∙ ap (λ a. place_at a 8) (c.new.ensures ∙ ap (λ n. n / 8 * 8) c.get.ensures.value) in
    rw (← c.self.view_is)
    (part_holds s.pools s.store.storage s.tasks.owners c.self.invariant c.args.addr c.in-Some-part_in.pool
    (subst (λ p. (d : ℕ) × Covers p d × HasPart (pools_of s.pools s.store.storage) c.in-Some-part_in.pool d) place c.in-Some-part_in.ensures))

pub returns-in-Some-label : goal.returns-in-Some-label
returns-in-Some-label c =
    let s = c.self.inside in
    let place : c.new-doubleword.result ≡ place_at (c.args.addr / 8 * 8) 8 = c.new-doubleword.ensures ∙ ap (λ a. place_at a 8) (c.new.ensures ∙ ap (λ n. n / 8 * 8) c.get.ensures.value) in
    rw (← c.self.view_is)
    (subpool_holds s.pools s.store.storage s.tasks.owners c.self.invariant c.args.addr c.in-Some.subpool _ _ (sym c.held.ensures.held ∙ c.in-Some.is)
    (subst (TouchesNone s.store.storage (pools_of s.pools s.store.storage) c.in-Some.subpool) place c.in_default-part_in.ensures) c.in-Some-label.ensures.label.0 c.in-Some-label.ensures.label.1)

pub returns-in-None : goal.returns-in-None
returns-in-None c =
    let s = c.self.inside in
    let place : c.new-doubleword.result ≡ place_at (c.args.addr / 8 * 8) 8 = c.new-doubleword.ensures ∙ ap (λ a. place_at a 8) (c.new.ensures ∙ ap (λ n. n / 8 * 8) c.get.ensures.value) in
    rw (← c.self.view_is)
    (unowned_holds s.pools s.store.storage s.tasks.owners c.self.invariant c.args.addr c.in-Some.subpool (sym c.held.ensures.held ∙ c.in-Some.is)
    (subst (TouchesNone s.store.storage (pools_of s.pools s.store.storage) c.in-Some.subpool) place c.in_default-part_in.ensures) c.in-None.ensures.label)
