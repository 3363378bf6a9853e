use Rattle.std.proofs.Common.{arith}
use Rattle.job_script.proofs.Fitting.{fit_rest}
use Rattle.job_script.proofs.resolving.+set_all.Goals as goal

pub set_all-requires : goal.set_all-requires
set_all-requires t c = (
  omega (arith, c.in-Some.ensures.cases.1),
  fit_rest c.args.areas.now c.args.places.now _ _ _ _ c.in-Some.ensures.cases.0 c.in-Some-split_first.ensures.cases.0 c.requires,
)
