use Rattle.std.proofs.Common.{map, refl, rules}
use Rattle.std.specs.List.{AllByRecursion}
use Rattle.mvs_model.specs.Changes.{Disjoint, HeldPlain}
use Rattle.mvs_model.specs.Requests.{whole}
use Rattle.request_forms.specs.Machine.{machine_state}
use Rattle.request_forms.proofs.Places.{refuted, decided, all_back, overlapping_areas, unheld_areas, released_areas, areas_released}
use Rattle.request_forms.proofs.machine.Machine.release_areas.Goals as goal

pub returns-then-not-holds_each : goal.returns-then-not-holds_each
returns-then-not-holds_each c = rw (← c.self.view_is) (
  unheld_areas c.self.inside.pools c.self.inside.store.storage c.self.inside.tasks.owners c.self.invariant c.args.subpool c.in_ok-subpool.subpool (map whole c.args.places.now) (search rules)
      (refuted {P = AllByRecursion (HeldPlain (machine_state c.self.inside.pools c.self.inside.store.storage c.self.inside.tasks.owners) c.in_ok-subpool.subpool) (map whole c.args.places.now)} c.holds_each.result c.if-not-holds_each.true (c.holds_each.ensures c.self.inside.tasks.owners)),
  refl,
)

pub returns-then-not-are_disjoint : goal.returns-then-not-are_disjoint
returns-then-not-are_disjoint c = rw (← c.self.view_is) (
  overlapping_areas c.self.inside.pools c.self.inside.store.storage c.self.inside.tasks.owners c.self.invariant c.args.subpool c.in_ok-subpool.subpool (map whole c.args.places.now) (search rules)
      (decided {P = AllByRecursion (HeldPlain (machine_state c.self.inside.pools c.self.inside.store.storage c.self.inside.tasks.owners) c.in_ok-subpool.subpool) (map whole c.args.places.now)} c.holds_each.result c.if-not-holds_each.false (c.holds_each.ensures c.self.inside.tasks.owners))
      (refuted {P = Disjoint (map whole c.args.places.now)} c.are_disjoint.result c.if-not-are_disjoint.true c.are_disjoint.ensures),
  refl,
)

pub take_back_each-requires-clause-held : goal.take_back_each-requires-clause-held
take_back_each-requires-clause-held c = (
  all_back c.self.inside.pools c.self.inside.store.storage c.self.inside.tasks.owners c.self.invariant c.in_ok-subpool.subpool (map whole c.args.places.now)
      (decided {P = AllByRecursion (HeldPlain (machine_state c.self.inside.pools c.self.inside.store.storage c.self.inside.tasks.owners) c.in_ok-subpool.subpool) (map whole c.args.places.now)} c.holds_each.result c.if-not-holds_each.false (c.holds_each.ensures c.self.inside.tasks.owners)),
  decided {P = Disjoint (map whole c.args.places.now)} c.are_disjoint.result c.if-not-are_disjoint.false c.are_disjoint.ensures,
)

pub returns : goal.returns
returns c = rw (← c.self.view_is)
    (released_areas c.self.inside.pools c.self.inside.store.storage c.self.inside.tasks.owners c.self.invariant c.take_back_each.new.store.storage c.in_ok-subpool.subpool (map whole c.args.places.now) c.take_back_each.ensures.storage
    (decided {P = AllByRecursion (HeldPlain (machine_state c.self.inside.pools c.self.inside.store.storage c.self.inside.tasks.owners) c.in_ok-subpool.subpool) (map whole c.args.places.now)} c.holds_each.result c.if-not-holds_each.false (c.holds_each.ensures c.self.inside.tasks.owners))
    c.take_back_each.ensures.released c.args.subpool (search rules)
    (decided {P = Disjoint (map whole c.args.places.now)} c.are_disjoint.result c.if-not-are_disjoint.false c.are_disjoint.ensures))

pub invariant_of-self : goal.invariant_of-self
invariant_of-self c =
    (areas_released c.self.inside.pools c.self.inside.store.storage c.self.inside.tasks.owners c.self.invariant c.take_back_each.new.store.storage c.in_ok-subpool.subpool (map whole c.args.places.now) c.take_back_each.ensures.storage
    (decided {P = AllByRecursion (HeldPlain (machine_state c.self.inside.pools c.self.inside.store.storage c.self.inside.tasks.owners) c.in_ok-subpool.subpool) (map whole c.args.places.now)} c.holds_each.result c.if-not-holds_each.false (c.holds_each.ensures c.self.inside.tasks.owners))
    c.take_back_each.ensures.released).0
