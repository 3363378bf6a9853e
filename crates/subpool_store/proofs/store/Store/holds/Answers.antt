use Rattle.std.proofs.Common.{◌≡◌, ◌+◌, ◌-◌, ◌/◌, ◌<◌, ◌≤◌, false, true, subst, arith}
use Rattle.mvs_model.specs.Storage.{IsStorage}
use Rattle.subpool_store.proofs.Both.{storage_of}
use Rattle.subpool_store.proofs.Choice.{held_small}
use Rattle.subpool_store.proofs.Value.{stored}
use Rattle.subpool_store.proofs.store.Store.holds.Goals as goal

pub returns-then-not-has_addresses-clause-holds : goal.returns-then-not-has_addresses-clause-holds
returns-then-not-has_addresses-clause-holds c =
    let s = c.self.inside in let p = c.args.place in let last = (p.addr + p.len - 1) / 8 in
    let some : 1 ≤ p.len = c.has_addresses.ensures.some in
    let past : 2147483648 < p.addr + p.len = c.if-not-has_addresses.ensures.within in (
      λ yes. absurd (let e : false ≡ true = yes in cc),
      λ held. absurd (let low : last < 268435456 = held_small s.below s.above s.fill c.args.self.now.storage c.self.invariant.0 (stored c.self.view_is) last c.args.subpool (held last (omega arith, omega arith)) in omega arith),
    )

pub returns-then-not-has_addresses-clause-storage : goal.returns-then-not-has_addresses-clause-storage
returns-then-not-has_addresses-clause-storage c = let s = c.self.inside in subst IsStorage (stored c.self.view_is) (storage_of s.below s.above s.fill c.self.invariant.0)

pub returns-clause-holds : goal.returns-clause-holds
returns-clause-holds c = (
  λ yes d covered. c.holds_whole.ensures.holds.0 yes d ((c.whole_doublewords.ensures.same d).1 covered),
  λ held. c.holds_whole.ensures.holds.1 (λ d covered. held d ((c.whole_doublewords.ensures.same d).0 covered)),
)
