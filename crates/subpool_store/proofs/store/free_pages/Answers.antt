use Rattle.std.proofs.Common.{◌+◌}
use Rattle.subpool_store.proofs.FreeBoth.{free_below_is, free_above_is}
use Rattle.subpool_store.proofs.store.free_pages.Goals as goal

pub returns-clause-free : goal.returns-clause-free
returns-clause-free c = λ fill both i.
    free_below_is c.args.below.now c.args.above.now fill both c.free_pages.result c.free_pages.ensures.free i
    + free_above_is c.args.below.now c.args.above.now fill both c.free_pages-2.result c.free_pages-2.ensures.free i
