use Rattle.std.proofs.Common.{◌≡◌, ◌<◌, arith, subst}
use Rattle.mvs_model.specs.declared.reason.Holder.{Holder}
use Rattle.mvs_model.specs.Reasons.{Holds}
use Rattle.mvs_c.proofs.Scanning.{one_more, only_one}
use Rattle.mvs_c.proofs.held.run_end.Goals as goal

pub loop-d-init : goal.loop-d-init
loop-d-init c = only_one (λ d. Holds c.args.machine.now.state d c.args.holder.now) c.args.first c.requires.held

pub loop-d-preserved : goal.loop-d-preserved
loop-d-preserved c =
    let same : c.holder_at.result ≡ c.args.holder.now = c.if-not-is_same.ensures in
    one_more (λ d. Holds c.args.machine.now.state d c.args.holder.now) c.args.first c.loop-d.d c.loop-d.invariant
    (subst (λ (h : Holder). Holds c.args.machine.now.state c.loop-d.d h) same c.holder_at.ensures)

pub returns-clause-run : goal.returns-clause-run
returns-clause-run c = record {
  some = omega (arith, c.requires.low);
  alike = λ d low high. let less : d < c.loop-d.d = omega (arith, c.loop-d-test.false, high) in c.loop-d.invariant d low less;
  ends = λ less. absurd (omega (arith, less));
}
