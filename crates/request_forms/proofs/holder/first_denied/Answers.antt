use Rattle.std.proofs.Common.{◌≡◌, ◌+◌, ◌-◌, ◌/◌, ◌<◌, ap, sym, subst, ◌∙◌, arith}
use Rattle.mvs_model.specs.Place.{place_at}
use Rattle.mvs_model.specs.Changes.{Granted}
use Rattle.mvs_model.specs.Reasons.{IsDeniedIn}
use Rattle.request_forms.specs.Machine.{machine_state}
use Rattle.request_forms.proofs.Bytes.{some_owners}
use Rattle.request_forms.proofs.Halves.{none_granted, denied_address, first_not_granted}
use Rattle.request_forms.proofs.Places.{decided, refuted}
use Rattle.request_forms.proofs.holder.first_denied.Goals as goal

pub returns-then-may_access : goal.returns-then-may_access
returns-then-may_access c = λ o. decided {P = Granted (machine_state c.args.pools.now c.args.store.now.storage o) c.args.place} c.may_access.result c.if-may_access.true (c.may_access.ensures.granted o)

pub halves-init : goal.halves-init
halves-init c =
    let p = c.args.place in let len : c.len-end.result ≡ p.len = c.len-end.ensures.len in record {
      ordered = omega (arith, c.len-end.ensures.some);
      most = omega arith;
      front = λ o. none_granted (machine_state c.args.pools.now c.args.store.now.storage o) p.addr;
      not_more = λ o h. refuted {P = Granted (machine_state c.args.pools.now c.args.store.now.storage o) p} c.may_access.result c.if-may_access.false (c.may_access.ensures.granted o)
          (subst (Granted (machine_state c.args.pools.now c.args.store.now.storage o)) (ap (place_at p.addr) len) h);
    }

pub halves-preserved-then-may_access-2 : goal.halves-preserved-then-may_access-2
halves-preserved-then-may_access-2 c =
    let p = c.args.place in let middle = c.halves.granted + (c.halves.end - c.halves.granted) / 2 in
    let is : c.new.result ≡ place_at p.addr middle = c.new.ensures ∙ ap (λ a. place_at a middle) c.addr.ensures in record {
      ordered = omega (arith, c.halves-test.true, c.halves.invariant.ordered);
      most = c.halves.invariant.most;
      front = λ o. subst (Granted (machine_state c.args.pools.now c.args.store.now.storage o)) is
          (decided {P = Granted (machine_state c.args.pools.now c.args.store.now.storage o) c.new.result} c.may_access-in-halves.result c.if-may_access-2.true (c.may_access-in-halves.ensures.granted o));
      not_more = c.halves.invariant.not_more;
    }

pub halves-preserved : goal.halves-preserved
halves-preserved c =
    let p = c.args.place in let middle = c.halves.granted + (c.halves.end - c.halves.granted) / 2 in
    let is : c.new.result ≡ place_at p.addr middle = c.new.ensures ∙ ap (λ a. place_at a middle) c.addr.ensures in record {
      ordered = omega (arith, c.halves-test.true, c.halves.invariant.ordered);
      most = omega (arith, c.halves.invariant.most, c.halves.invariant.ordered);
      front = c.halves.invariant.front;
      not_more = λ o h. refuted {P = Granted (machine_state c.args.pools.now c.args.store.now.storage o) c.new.result} c.may_access-in-halves.result c.if-may_access-2.false (c.may_access-in-halves.ensures.granted o)
          (subst (Granted (machine_state c.args.pools.now c.args.store.now.storage o)) (sym is) h);
    }

pub new-requires-2 : goal.new-requires-2
new-requires-2 c =
    let p = c.args.place in let at : c.get.result ≡ p.addr = c.get.ensures.value ∙ c.addr-2.ensures in
    let low : p.addr + c.halves.granted < 2147483648 = denied_address c.args.pools.now c.args.store.now.storage c.requires some_owners p.addr c.halves.granted (omega (arith, c.get.ensures.small)) (c.halves.invariant.front some_owners) in
    omega arith

pub returns : goal.returns
returns c = λ o.
    let p = c.args.place in let at : c.get.result ≡ p.addr = c.get.ensures.value ∙ c.addr-2.ensures in
    let made : c.new-2.result ≡ p.addr + c.halves.granted = c.new-2.ensures ∙ ap (λ n. n + c.halves.granted) at in
    subst (IsDeniedIn (machine_state c.args.pools.now c.args.store.now.storage o) p) (sym made)
    (first_not_granted (machine_state c.args.pools.now c.args.store.now.storage o) p c.halves.granted c.halves.end (omega (arith, c.halves-test.false, c.halves.invariant.ordered)) c.halves.invariant.most (c.halves.invariant.front o) (c.halves.invariant.not_more o))
