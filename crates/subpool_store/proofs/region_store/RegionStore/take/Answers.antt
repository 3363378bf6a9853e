use Rattle.std.proofs.Common.{◌≡◌, ◌+◌, ◌*◌, length, ap, arith}
use Rattle.mvs_model.specs.Storage.{IsBetween}
use Rattle.std.specs.Prelude.{unwrap_or}
use Rattle.subpool_store.specs.Region.{value_at}
use Rattle.subpool_store.proofs.Methods.{region_sound, open_free, open_inside, open_usable, take_region, take_changes}
use Rattle.subpool_store.proofs.Opened.{stays_held}
use Rattle.subpool_store.proofs.Ranges.{in_range_true}
use Rattle.subpool_store.proofs.region_store.RegionStore.take.Goals as goal

pub take_run-requires-clause-usable : goal.take_run-requires-clause-usable
take_run-requires-clause-usable c = let s = c.self.inside in open_usable s.first s.memory.held s.pages (value_at s.memory.bytes) c.args.self.now c.self.invariant.0 c.self.view_is c.args.subpool c.args.place _ _ c.requires.whole c.requires.some c.run_of-run.ensures.start c.run_of-run.ensures.end c.requires.open

pub take_run-requires-clause-within : goal.take_run-requires-clause-within
take_run-requires-clause-within c =
    let s = c.self.inside in
    let sizes : length s.memory.held ≡ 512 * length s.pages = c.self.invariant.0.exact.sizes in
    let inside : IsBetween (8 * s.first) (8 * s.first + 8 * length s.memory.held) c.args.place = open_inside s.first s.memory.held s.pages (value_at s.memory.bytes) c.args.self.now c.self.invariant.0 c.self.view_is c.args.subpool c.args.place _ _ c.requires.whole c.requires.some c.run_of-run.ensures.start c.run_of-run.ensures.end c.requires.open in
    omega (arith, c.run_of-run.ensures.start, c.run_of-run.ensures.end, c.requires.whole.0, c.requires.whole.1)

pub take_run-requires-clause-free : goal.take_run-requires-clause-free
take_run-requires-clause-free c = let s = c.self.inside in open_free s.first s.memory.held s.pages (value_at s.memory.bytes) c.args.self.now c.self.invariant.0 c.self.view_is c.args.subpool c.args.place _ _ c.requires.whole c.requires.some c.run_of-run.ensures.start c.run_of-run.ensures.end c.requires.open

pub invariant_of-self : goal.invariant_of-self
invariant_of-self c =
    let s = c.self.inside in (
      take_region s.first s.memory.held s.pages (value_at s.memory.bytes) c.args.self.now c.self.invariant.0 c.self.view_is c.args.subpool c.args.place _ _ c.requires.whole c.requires.some c.run_of-run.ensures.start c.run_of-run.ensures.end _ _ c.requires.open c.take_run.ensures.marked c.take_run.ensures.assigned,
      c.take_run.ensures.opened,
    )

pub returns-clause-taken : goal.returns-clause-taken
returns-clause-taken c =
    let s = c.self.inside in let run = c.run_of-run.result in let new = c.take_run.new.memory.bytes in
    take_changes s.first s.memory.held s.pages (value_at s.memory.bytes) c.args.self.now c.self.invariant.0 c.self.view_is c.args.subpool c.args.place _ _ c.requires.whole c.requires.some c.run_of-run.ensures.start c.run_of-run.ensures.end _ _ c.requires.open c.take_run.ensures.marked c.take_run.ensures.assigned c.args.fill (value_at new)
    (λ k hit. let there = in_range_true (8 * run.start) (8 * run.end) k hit in ap (λ o. unwrap_or o 0) (c.take_run.ensures.filled k there.0 there.1))
    (λ k t _ held. stays_held s.memory.held s.pages s.memory.bytes new c.take_run.ensures.stays k t held)

pub returns-clause-sound : goal.returns-clause-sound
returns-clause-sound c =
    let s = c.self.inside in
    region_sound s.first c.take_run.new.memory.held c.take_run.new.pages (value_at c.take_run.new.memory.bytes) (take_region s.first s.memory.held s.pages (value_at s.memory.bytes) c.args.self.now c.self.invariant.0 c.self.view_is c.args.subpool c.args.place _ _ c.requires.whole c.requires.some c.run_of-run.ensures.start c.run_of-run.ensures.end _ _ c.requires.open c.take_run.ensures.marked c.take_run.ensures.assigned)
