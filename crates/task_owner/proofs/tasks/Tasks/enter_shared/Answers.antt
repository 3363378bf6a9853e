use Rattle.std.proofs.Common.{subst, arith}
use Rattle.task_owner.specs.Tasks.{name_of}
use Rattle.task_owner.specs.Handing.{GetsEntry}
use Rattle.task_owner.proofs.tasks.Tasks.enter_shared.Goals as goal
use Rattle.task_owner.proofs.Entering.{none_yet, passed_to, one_entered}

pub shared-init : goal.shared-init
shared-init c = record { within = omega arith; shared = none_yet _ _ _ }

pub shared-preserved : goal.shared-preserved
shared-preserved c =
    let e = c.in-Some.ensures in record {
      within = omega (arith, e.1);
      shared = one_entered c.args.self.now c.shared.self c.enter_one.new.self c.args.mother c.in-Some.number c.args.gifts.now
          (passed_to c.args.self.now c.shared.self c.args.mother c.args.gifts.now c.shared.from c.in-Some.number e.0 c.shared.invariant.shared e.3) e.2
          (subst (λ m. GetsEntry c.shared.self.owners (name_of c.shared.self c.args.mother) m c.enter_one.new.self.owners) c.of.ensures c.enter_one.ensures.entered)
          c.enter_one.ensures.names;
    }

pub returns : goal.returns
returns c = passed_to c.args.self.now c.shared.self c.args.mother c.args.gifts.now c.shared.from 128 c.shared.invariant.within c.shared.invariant.shared (λ i low high. c.in_default.ensures i low)
