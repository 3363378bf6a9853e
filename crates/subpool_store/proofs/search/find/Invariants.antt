use Rattle.std.proofs.Common.{◌-◌, IfSome, length}
use Rattle.subpool_store.specs.Search.{may_take, IsCandidate, CandidatesAfterBest}
use Rattle.subpool_store.specs.PageWalk.{IsWalk}
use Rattle.subpool_store.proofs.search.find.Given as goal

abbrev pub invariant-runs : goal.invariant-runs
invariant-runs l = record {
  walk : IsWalk l.memory l.pages l.subpool l.walk;
  found : IfSome l.best (IsCandidate (may_take l.memory.held l.pages l.subpool) l.first l.want);
  trailing : CandidatesAfterBest (may_take l.memory.held l.pages l.subpool) l.first l.want l.best l.walk.start;
}

abbrev pub decreases-runs : goal.decreases-runs
decreases-runs l = length l.memory.held - l.walk.start
