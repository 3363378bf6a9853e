use Rattle.std.proofs.Common.{arith}
use Rattle.subpool_store.proofs.Passed.{walk_few}
use Rattle.subpool_store.proofs.walk.PageWalk.examine.Goals as goal

pub join_pages-requires-clause-few : goal.join_pages-requires-clause-few
join_pages-requires-clause-few c = let few = walk_few c.args.memory.now c.args.pages.now c.args.subpool c.args.self.now c.requires.exact c.requires.walk in omega (arith, few)

pub pass_pages-requires-clause-few : goal.pass_pages-requires-clause-few
pass_pages-requires-clause-few c = let few = walk_few c.args.memory.now c.args.pages.now c.args.subpool c.args.self.now c.requires.exact c.requires.walk in omega (arith, few)
