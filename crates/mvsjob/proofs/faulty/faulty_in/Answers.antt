use Rattle.std.proofs.Common.{◌≤◌, arith, length}
use Rattle.mvs_model.specs.declared.outcome.Outcome.TheVariants.{ScriptFault}
use Rattle.mvsjob.proofs.Faulting.{ended_so}
use Rattle.mvsjob.proofs.faulty.faulty_in.Goals as goal

pub returns-clause-ended : goal.returns-clause-ended
returns-clause-ended c events run =
    let small : length c.args.script.now ≤ 16777215 = c.requires in
    ended_so _ events _ _ (c.first_faulty.ensures.fault (omega (arith, small))) (c.same_fault.ensures c.args.script.now events ScriptFault run)
