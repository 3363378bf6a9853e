use Rattle.std.proofs.Common.{◌≡◌, ◌+◌, ◌-◌, ◌*◌, ◌/◌, ◌%◌, ◌<◌, ap, sym, subst, ◌∙◌, arith}
use Rattle.mvs_model.specs.Place.{place_at}
use Rattle.mvs_model.specs.Changes.{HeldPlain}
use Rattle.request_forms.specs.Machine.{machine_state}
use Rattle.request_forms.proofs.Bytes.{some_owners}
use Rattle.request_forms.proofs.Halves.{none_held, as_whole, unheld_address, first_not_held}
use Rattle.request_forms.proofs.Places.{decided, refuted}
use Rattle.request_forms.proofs.holder.first_unheld.Goals as goal

pub returns-then-holds_plain : goal.returns-then-holds_plain
returns-then-holds_plain c = λ o. decided {P = HeldPlain (machine_state c.args.pools.now c.args.store.now.storage o) c.args.subpool c.args.place} c.holds_plain.result c.if-holds_plain.true (c.holds_plain.ensures o)

pub halves-init : goal.halves-init
halves-init c =
    let p = c.args.place in let len : c.len-end.result ≡ p.len = c.len-end.ensures.len in
    let w0 : p.addr % 8 ≡ 0 = c.requires.whole.0 in let w1 : p.len % 8 ≡ 0 = c.requires.whole.1 in record {
      ordered = omega (arith, c.len-end.ensures.some);
      most = omega arith;
      front = λ o. none_held (machine_state c.args.pools.now c.args.store.now.storage o) c.args.subpool p.addr w0;
      not_more = λ o h. refuted {P = HeldPlain (machine_state c.args.pools.now c.args.store.now.storage o) c.args.subpool p} c.holds_plain.result c.if-holds_plain.false (c.holds_plain.ensures o)
          (subst (HeldPlain (machine_state c.args.pools.now c.args.store.now.storage o) c.args.subpool) (as_whole p (c.len-end.result / 8) (omega arith)) h);
    }

pub halves-preserved-then-holds_plain-2 : goal.halves-preserved-then-holds_plain-2
halves-preserved-then-holds_plain-2 c =
    let p = c.args.place in let middle = c.halves.held + (c.halves.end - c.halves.held) / 2 in
    let is : c.new.result ≡ place_at p.addr (8 * middle) = c.new.ensures ∙ ap (λ a. place_at a (8 * middle)) c.addr.ensures in record {
      ordered = omega (arith, c.halves-test.true, c.halves.invariant.ordered);
      most = c.halves.invariant.most;
      front = λ o. subst (HeldPlain (machine_state c.args.pools.now c.args.store.now.storage o) c.args.subpool) is
          (decided {P = HeldPlain (machine_state c.args.pools.now c.args.store.now.storage o) c.args.subpool c.new.result} c.holds_plain-in-halves.result c.if-holds_plain-2.true (c.holds_plain-in-halves.ensures o));
      not_more = c.halves.invariant.not_more;
    }

pub halves-preserved : goal.halves-preserved
halves-preserved c =
    let p = c.args.place in let middle = c.halves.held + (c.halves.end - c.halves.held) / 2 in
    let is : c.new.result ≡ place_at p.addr (8 * middle) = c.new.ensures ∙ ap (λ a. place_at a (8 * middle)) c.addr.ensures in record {
      ordered = omega (arith, c.halves-test.true, c.halves.invariant.ordered);
      most = omega (arith, c.halves.invariant.most, c.halves.invariant.ordered);
      front = c.halves.invariant.front;
      not_more = λ o h. refuted {P = HeldPlain (machine_state c.args.pools.now c.args.store.now.storage o) c.args.subpool c.new.result} c.holds_plain-in-halves.result c.if-holds_plain-2.false (c.holds_plain-in-halves.ensures o)
          (subst (HeldPlain (machine_state c.args.pools.now c.args.store.now.storage o) c.args.subpool) (sym is) h);
    }

pub new-requires-2 : goal.new-requires-2
new-requires-2 c =
    let p = c.args.place in let at : c.get.result ≡ p.addr = c.get.ensures.value ∙ c.addr-2.ensures in
    let low : p.addr + 8 * c.halves.held < 2147483648 = unheld_address c.args.pools.now c.args.store.now.storage c.requires.agree some_owners c.args.subpool p.addr c.halves.held c.requires.whole.0 (omega (arith, c.get.ensures.small)) (c.halves.invariant.front some_owners) in
    omega arith

pub returns : goal.returns
returns c = λ o.
    let p = c.args.place in let at : c.get.result ≡ p.addr = c.get.ensures.value ∙ c.addr-2.ensures in
    let w0 : p.addr % 8 ≡ 0 = c.requires.whole.0 in
    let made : c.new-2.result ≡ c.get.result + 8 * c.halves.held = c.new-2.ensures in (
      p.addr / 8 + c.halves.held,
      omega arith,
      first_not_held (machine_state c.args.pools.now c.args.store.now.storage o) c.args.subpool p c.halves.held c.halves.end c.requires.whole (omega (arith, c.halves-test.false, c.halves.invariant.ordered)) c.halves.invariant.most (c.halves.invariant.front o) (c.halves.invariant.not_more o),
    )
