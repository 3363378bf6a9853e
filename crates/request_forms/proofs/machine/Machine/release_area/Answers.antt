use Rattle.std.proofs.Common.{refl, rules}
use Rattle.request_forms.proofs.Bytes.{outside, touched}
use Rattle.request_forms.proofs.Places.{touched_area, area_agrees, released_area, unheld_area}
use Rattle.request_forms.proofs.machine.Machine.release_area.Goals as goal

pub returns-then-not-is_outside_pools : goal.returns-then-not-is_outside_pools
returns-then-not-is_outside_pools c = rw (← c.self.view_is) (
  touched_area c.self.inside.pools c.self.inside.store.storage c.self.inside.tasks.owners c.self.invariant c.args.subpool c.in_ok-subpool.subpool c.args.place (search rules)
      (touched _ _ c.is_outside_pools.result c.is_outside_pools.ensures c.if-not-is_outside_pools.true),
  refl,
)

pub invariant_of-self : goal.invariant_of-self
invariant_of-self c =
    area_agrees c.self.inside.pools c.self.inside.store.storage c.self.inside.tasks.owners c.self.invariant c.release.new.self.storage c.in_ok-subpool.subpool c.args.place c.release.ensures.storage
    (outside _ _ c.is_outside_pools.result c.is_outside_pools.ensures c.if-not-is_outside_pools.false) c.release.result c.release.ensures.released

pub returns-in_default : goal.returns-in_default
returns-in_default c = rw (← c.self.view_is)
    (unheld_area c.self.inside.pools c.self.inside.store.storage c.self.inside.tasks.owners c.self.invariant c.release.new.self.storage c.in_ok-subpool.subpool c.args.place c.release.ensures.storage
    (outside _ _ c.is_outside_pools.result c.is_outside_pools.ensures c.if-not-is_outside_pools.false) c.args.subpool (search rules) c.in_default.ensures.released)

pub returns : goal.returns
returns c = rw (← c.self.view_is)
    (released_area c.self.inside.pools c.self.inside.store.storage c.self.inside.tasks.owners c.self.invariant c.release.new.self.storage c.in_ok-subpool.subpool c.args.place c.release.ensures.storage
    (outside _ _ c.is_outside_pools.result c.is_outside_pools.ensures c.if-not-is_outside_pools.false) c.args.subpool (search rules) c.in-Ok.ensures.released)

pub invariant_of-self-2 : goal.invariant_of-self-2
invariant_of-self-2 c =
    area_agrees c.self.inside.pools c.self.inside.store.storage c.self.inside.tasks.owners c.self.invariant c.release.new.self.storage c.in_ok-subpool.subpool c.args.place c.release.ensures.storage
    (outside _ _ c.is_outside_pools.result c.is_outside_pools.ensures c.if-not-is_outside_pools.false) c.release.result c.release.ensures.released
