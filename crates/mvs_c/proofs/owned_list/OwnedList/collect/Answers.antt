use Rattle.std.proofs.Common.{◌≡◌, ℕ, ◌+◌, ◌≤◌, length, sym, ap, ◌∙◌, arith}
use Rattle.mvs_model.specs.Reports.{each_below}
use Rattle.request_forms.specs.Facts.{listed, owned_at}
use Rattle.mvs_job.proofs.Freeing.{none_more, one_more, passed}
use Rattle.mvs_job.proofs.Numbers.{each_none}
use Rattle.mvs_c.proofs.owned_list.OwnedList.collect.Goals as goal
use Rattle.mvs_c.proofs.owned_list.OwnedList.collect.Goals.{in-Some-owned_among, in_default-owned_among}

pub loop-next-init : goal.loop-next-init
loop-next-init c = record {
  low = omega arith;
  few = (let e = ap length c.clear.ensures in omega (arith, e));
  each = c.clear.ensures ∙ sym (each_none (λ s. listed (owned_at c.args.job.now.state c.args.task.now s)));
}

pub loop-next-preserved : goal.loop-next-preserved
loop-next-preserved c =
    let st = c.args.job.now.state in
    let t = c.args.task.now in
    let next = c.in-Some.next in
    let is : c.get-from.result ≡ next = c.get-from.ensures.value in
    let whole = c.machine-machine.ensures ∙ c.step.ensures.state in
    let found = rw (whole) at c.in-Some.ensures in
    let below = found.0 in
    let few : length c.loop-next.self ≤ next = omega (arith, c.loop-next.invariant.few, below) in
    let each = passed st t c.loop-next.from next c.loop-next.self below found.2 c.loop-next.invariant.each in
    let owned = rw (whole) at (c.owned_among.ensures t c.subpools_of-had.ensures) in
    let row = λ (k : ℕ). each_below (k + 1) (λ s. listed (owned_at st t s)) in
    elim c.match-owned_among.branch [
      | in-Some-owned_among w ↦ (let m = one_more st t next c.loop-next.self few each _ _ (sym owned ∙ w.in-Some-owned_among.is) (w.self-is ∙ w.push.ensures) in record { low = omega (arith, c.get-from.ensures.low); few = omega (arith, m.0, is); each = m.1 ∙ ap row (sym is) })
      | in_default-owned_among w ↦ (let m = none_more st t next c.loop-next.self few each _ (sym owned ∙ w.in_default-owned_among.is) w.self-is in record { low = omega (arith, c.get-from.ensures.low); few = omega (arith, m.0, is); each = m.1 ∙ ap row (sym is) })
    ]

pub returns : goal.returns
returns c =
    let none = rw (c.machine-machine.ensures ∙ c.step.ensures.state) at c.in_default.ensures in
    passed c.args.job.now.state c.args.task.now c.loop-next.from 4098 c.loop-next.self c.loop-next.invariant.low (λ n low high. none n low) c.loop-next.invariant.each
