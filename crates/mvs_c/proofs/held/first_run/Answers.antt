use Rattle.mvs_c.specs.Held.{BeginsNoRun}
use Rattle.mvs_c.proofs.Scanning.{one_more}
use Rattle.mvs_c.proofs.held.first_run.Goals as goal

pub loop-d-preserved : goal.loop-d-preserved
loop-d-preserved c = one_more (λ d. BeginsNoRun c.args.machine.now.state d) c.args.from c.loop-d.d c.loop-d.invariant c.in_default.ensures
