use Rattle.std.proofs.Common.{subst}
use Rattle.judge.specs.Excluding.{IsRuling}
use Rattle.judge.proofs.Found.{none_found}
use Rattle.judge.proofs.settle.Goals as goal

pub returns-in-Excluded-clause-agrees : goal.returns-in-Excluded-clause-agrees
returns-in-Excluded-clause-agrees c =
    (none_found c.args.script.now c.args.output.now c.args.judgement.text.items c.args.judgement.outcome c.requires.run (subst (IsRuling c.args.script.now c.args.output.now) c.in-Excluded.is c.requires.ruling)).2
