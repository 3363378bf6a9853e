use Rattle.std.proofs.Common.{◌≤◌, ◌+◌, length, subst, ap, sym}
use Rattle.std.specs.Prelude.{◌==◌}
use Rattle.diagnosis.proofs.Places.{before_short}
use Rattle.diagnosis.proofs.refused.part_of.Goals as goal

pub returns-in-Some-clause-within : goal.returns-in-Some-clause-within
returns-in-Some-clause-within c =
    let after = rw c.in-Some.is at c.split_once.ensures.after in
    subst (λ n. n + 1 ≤ length c.args.operand.now) (ap length (sym c.split_once.ensures.before)) (before_short (λ b. b == 61) c.args.operand.now after.0)
