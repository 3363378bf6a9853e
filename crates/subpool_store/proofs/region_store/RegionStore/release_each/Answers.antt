use Rattle.mvs_model.specs.Storage.{is_one_of}
use Rattle.subpool_store.specs.Region.{value_at}
use Rattle.subpool_store.proofs.Methods.{region_sound, drop_region, drop_changes}
use Rattle.subpool_store.proofs.Opened.{stays_held}
use Rattle.subpool_store.proofs.region_store.RegionStore.release_each.Goals as goal

pub invariant_of-self : goal.invariant_of-self
invariant_of-self c = let s = c.self.inside in (drop_region s.first s.memory.held s.pages (value_at s.memory.bytes) c.args.self.now c.self.invariant.0 c.self.view_is (is_one_of c.args.subpools.now) _ _ c.drop_pages.ensures.dropped, c.drop_pages.ensures.opened)

pub returns-clause-dropped : goal.returns-clause-dropped
returns-clause-dropped c =
    let s = c.self.inside in
    drop_changes s.first s.memory.held s.pages (value_at s.memory.bytes) c.args.self.now c.self.invariant.0 c.self.view_is (is_one_of c.args.subpools.now) _ _ c.drop_pages.ensures.dropped (value_at c.drop_pages.new.memory.bytes)
    (stays_held c.drop_pages.new.memory.held c.drop_pages.new.pages s.memory.bytes c.drop_pages.new.memory.bytes c.drop_pages.ensures.stays)

pub returns-clause-sound : goal.returns-clause-sound
returns-clause-sound c = let s = c.self.inside in region_sound s.first c.drop_pages.new.memory.held c.drop_pages.new.pages (value_at c.drop_pages.new.memory.bytes) (drop_region s.first s.memory.held s.pages (value_at s.memory.bytes) c.args.self.now c.self.invariant.0 c.self.view_is (is_one_of c.args.subpools.now) _ _ c.drop_pages.ensures.dropped)
