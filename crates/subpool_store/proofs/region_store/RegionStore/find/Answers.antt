use Rattle.std.proofs.Common.{subst}
use Rattle.subpool_store.specs.Search.{IsCounted}
use Rattle.subpool_store.proofs.RegionCount.{counted_region}
use Rattle.subpool_store.specs.Region.{value_at}
use Rattle.subpool_store.proofs.Methods.{finds_best}
use Rattle.subpool_store.proofs.region_store.RegionStore.find.Goals as goal

pub returns-clause-best : goal.returns-clause-best
returns-clause-best c = let s = c.self.inside in finds_best s.first s.memory.held s.pages (value_at s.memory.bytes) c.args.self.now c.self.invariant.0 c.self.view_is c.args.subpool c.args.want.now _ c.find.ensures.wanted c.find.ensures.found c.find.ensures.longest

pub returns-clause-counted : goal.returns-clause-counted
returns-clause-counted c =
    let s = c.self.inside in
    subst (λ n. IsCounted n c.find.result.place c.find.result.steps) (counted_region s.first s.memory s.pages (value_at s.memory.bytes) c.args.self.now c.self.invariant.0 c.self.view_is c.args.subpool) c.find.ensures.counted
