use Rattle.subpool_store.proofs.Passed.{walk_few}
use Rattle.subpool_store.proofs.walk.PageWalk.examine_own.Goals as goal

pub examine_run-requires-clause-few : goal.examine_run-requires-clause-few
examine_run-requires-clause-few c = walk_few c.args.memory.now c.args.pages.now c.args.subpool c.args.self.now c.requires.exact c.requires.walk
