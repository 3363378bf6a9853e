use Rattle.std.proofs.Common.{◌≡◌, sym, ◌∙◌, true, false}
use Rattle.request_forms.proofs.Bytes.{outside, outside_back}
use Rattle.request_forms.proofs.Places.{plain_from, plain_back, plain_not}
use Rattle.request_forms.proofs.release.holds_plain.Goals as goal

pub returns-then-not-holds : goal.returns-then-not-holds
returns-then-not-holds c = λ o. (
  λ n. absurd (let e : false ≡ true = n in cc),
  λ h. sym c.if-not-holds.true ∙ c.holds.ensures.holds.1 (plain_back c.args.pools.now c.args.store.now.storage o c.requires.agree c.args.subpool c.args.place h),
)

pub returns : goal.returns
returns c = λ o. (
  λ yes. plain_from c.args.pools.now c.args.store.now.storage o c.requires.agree c.args.subpool c.args.place (c.holds.ensures.holds.0 c.if-not-holds.false) (outside _ _ c.is_outside_pools.result c.is_outside_pools.ensures yes),
  λ h. outside_back _ _ _ c.is_outside_pools.result c.is_outside_pools.ensures (plain_not c.args.pools.now c.args.store.now.storage o c.requires.agree c.args.subpool c.args.place) h,
)
