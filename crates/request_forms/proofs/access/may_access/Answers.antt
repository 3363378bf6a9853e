use Rattle.std.proofs.Common.{◌≡◌, ◌<◌, ◌+◌, ◌-◌, inl, inr, true, false, ◌∙◌, arith}
use Rattle.std.proofs.lemmas.Bool.{cases_lt}
use Rattle.request_forms.proofs.Accessing.{held_place}
use Rattle.request_forms.proofs.Bytes.{some_owners}
use Rattle.request_forms.proofs.Copying.{address_held}
use Rattle.request_forms.proofs.Pooling.{step_storage}
use Rattle.request_forms.proofs.access.may_access.Goals as goal

pub returns-then-at-gt-LAST_ADDRESS-clause-granted : goal.returns-then-at-gt-LAST_ADDRESS-clause-granted
returns-then-at-gt-LAST_ADDRESS-clause-granted c = λ o.
    let p = c.args.place in
    let at : c.get.result ≡ p.addr = c.get.ensures.value ∙ c.addr.ensures in
    let len : c.len.result ≡ p.len = c.len.ensures.len in (
      λ no. absurd (let f : false ≡ true = no in cc),
      λ h. absurd (
          let l : p.addr + (c.walk.at - p.addr) < 2147483648 = address_held c.args.store.now.storage p.addr p.len (c.walk.at - p.addr) (step_storage c.args.pools.now c.args.store.now.storage c.requires) (held_place c.args.pools.now c.args.store.now.storage c.requires o p (omega (arith, c.len.ensures.some, len)) h) (omega (arith, c.walk-test.true, c.walk.invariant.low, at, len)) in
          omega (arith, l, c.walk.invariant.low, c.if-at-gt-LAST_ADDRESS.true)),
    )

pub walk-smaller : goal.walk-smaller
walk-smaller c = omega (arith, c.walk-test.true, (c.in-Some.ensures some_owners).0, c.new.ensures)

pub walk-preserved : goal.walk-preserved
walk-preserved c = record {
  low = omega (arith, c.walk.invariant.low, (c.in-Some.ensures some_owners).0, c.new.ensures);
  so_far = λ o a low high. elim (cases_lt a c.walk.at) [
    | inl l ↦ c.walk.invariant.so_far o a low l
    | inr l ↦ (c.in-Some.ensures o).1 a (omega (arith, l, c.new.ensures)) high
  ];
}
