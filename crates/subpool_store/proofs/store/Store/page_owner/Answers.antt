use Rattle.std.proofs.Common.{◌≡◌, ◌<◌, arith}
use Rattle.subpool_store.proofs.Choice.{owner_below, owner_above}
use Rattle.subpool_store.proofs.Value.{stored}
use Rattle.subpool_store.proofs.store.Store.page_owner.Goals as goal

pub returns-then-get-lt-ABOVE_BEGINS : goal.returns-then-get-lt-ABOVE_BEGINS
returns-then-get-lt-ABOVE_BEGINS c = let s = c.self.inside in owner_below s.below s.above s.fill c.args.self.now.storage c.self.invariant.0 (stored c.self.view_is) c.args.addr _ (omega arith) c.page_owner.ensures

pub returns-else-get-lt-ABOVE_BEGINS : goal.returns-else-get-lt-ABOVE_BEGINS
returns-else-get-lt-ABOVE_BEGINS c =
    let s = c.self.inside in
    let is : c.get.result ≡ c.args.addr = c.get.ensures.value in
    let small : c.get.result < 2147483648 = c.get.ensures.small in
    owner_above s.below s.above s.fill c.args.self.now.storage c.self.invariant.0 (stored c.self.view_is) c.args.addr _ (omega arith) (omega arith) c.page_owner-else-get-lt-ABOVE_BEGINS.ensures
