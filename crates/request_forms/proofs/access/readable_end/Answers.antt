use Rattle.std.proofs.Common.{◌≡◌, ◌*◌, ◌/◌, ap, sym, subst, ◌∙◌, arith, Some}
use Rattle.mvs_model.specs.Place.{place_at}
use Rattle.mvs_model.specs.Storage.{holder}
use Rattle.mvs_model.specs.View.{holding}
use Rattle.mvs_model.proofs.CellPlaces.{address_yes, has_is}
use Rattle.cell_pool.specs.Cells.{Touches, TouchesNone}
use Rattle.cell_pool.specs.Roots.{pools_of}
use Rattle.request_forms.proofs.Bytes.{cell_granted, plain_granted, free_denied, pooled_denied, one_doubleword}
use Rattle.request_forms.proofs.Places.{plain_from}
use Rattle.request_forms.proofs.access.readable_end.Goals as goal

pub returns-in-Some : goal.returns-in-Some
returns-in-Some c = λ o.
    let inside = has_is c.in-Some.cell c.args.addr c.in-Some.ensures.1 in
    let begin : c.get.result ≡ c.in-Some.cell.addr = c.get.ensures.value ∙ c.addr.ensures in
    let long : c.len.result ≡ c.in-Some.cell.len = c.len.ensures.len in (
      omega (arith, inside.1, begin, long),
      λ a low high. cell_granted c.args.pools.now c.args.store.now.storage o c.requires c.in-Some.cell a c.in-Some.ensures.0 (address_yes c.in-Some.cell a (omega (arith, inside.0, low)) (omega (arith, high, begin, long))),
    )

pub returns-in_err-subpool : goal.returns-in_err-subpool
returns-in_err-subpool c = rw c.from_residual.ensures (λ o. free_denied c.args.pools.now c.args.store.now.storage o c.requires c.args.addr (sym c.held.ensures.held ∙ c.in_err-subpool.was) (c.in_default.ensures o))

pub returns-then-not-is_outside_pools : goal.returns-then-not-is_outside_pools
returns-then-not-is_outside_pools c = λ o.
    let st = c.args.store.now.storage in
    let pools = pools_of c.args.pools.now st in
    let place : c.new-2.result ≡ place_at (c.args.addr / 8 * 8) 8 = c.new-2.ensures ∙ ap (λ a. place_at a 8) (c.new.ensures ∙ ap (λ n. n / 8 * 8) c.get-2.ensures.value) in
    let touches = subst (λ p. Touches st pools c.in_ok-subpool.subpool p) place c.if-not-is_outside_pools.ensures in
    let same : touches.0 ≡ c.args.addr / 8 = one_doubleword c.args.addr touches.0 touches.1 in
    pooled_denied c.args.pools.now st o c.requires c.args.addr c.in_ok-subpool.subpool (ap (holding st pools) (sym same) ∙ touches.2) (c.in_default.ensures o)

pub returns : goal.returns
returns c = λ o.
    let st = c.args.store.now.storage in
    let pools = pools_of c.args.pools.now st in
    let place : c.new-2.result ≡ place_at (c.args.addr / 8 * 8) 8 = c.new-2.ensures ∙ ap (λ a. place_at a 8) (c.new.ensures ∙ ap (λ n. n / 8 * 8) c.get-2.ensures.value) in
    let none = subst (λ p. TouchesNone st pools c.in_ok-subpool.subpool p) place c.if-not-is_outside_pools.ensures in
    let held : holder st (c.args.addr / 8) ≡ Some c.in_ok-subpool.subpool = sym c.held.ensures.held ∙ c.in_ok-subpool.was in
    let at : c.get-2.result ≡ c.args.addr = c.get-2.ensures.value in
    let plainly = plain_from c.args.pools.now st o c.requires c.in_ok-subpool.subpool (place_at (c.args.addr / 8 * 8) 8) (λ d covers. ap (holder st) (one_doubleword c.args.addr d covers) ∙ held) none in (
      omega (arith, at),
      λ a low high. plain_granted c.args.pools.now st o c.requires c.in_ok-subpool.subpool (place_at (c.args.addr / 8 * 8) 8) plainly a (omega (arith, low, high, at), omega (arith, low, high, at)),
    )
