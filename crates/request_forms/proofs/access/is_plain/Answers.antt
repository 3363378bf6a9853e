use Rattle.std.proofs.Common.{◌≡◌, ◌*◌, ◌/◌, ap, ◌∙◌, arith}
use Rattle.request_forms.proofs.Bytes.{plain_granted, outside}
use Rattle.request_forms.proofs.Places.{plain_from}
use Rattle.request_forms.proofs.access.is_plain.Goals as goal

pub returns : goal.returns
returns c = λ o yes a low high.
    let begin : c.get.result ≡ c.args.place.addr = c.get.ensures.value ∙ c.addr-2.ensures in
    let first : c.new-whole.result.addr ≡ c.get.result / 8 * 8 = ap (λ p. p.addr) c.new-whole.ensures ∙ c.new.ensures in
    let long : c.new-whole.result.len ≡ c.div_ceil.result * 8 = ap (λ p. p.len) c.new-whole.ensures in
    plain_granted c.args.pools.now c.args.store.now.storage o c.requires c.in-Some.subpool c.new-whole.result
    (plain_from c.args.pools.now c.args.store.now.storage o c.requires c.in-Some.subpool c.new-whole.result (c.holds.ensures.holds.0 c.if-not-holds.false) (outside _ _ c.is_outside_pools.result c.is_outside_pools.ensures yes))
    a (omega (arith, low, first, begin), omega (arith, high, first, long, begin))
