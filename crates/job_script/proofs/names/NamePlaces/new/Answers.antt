use Rattle.std.proofs.Common.{refl}
use Rattle.job_script.proofs.Named.{no_areas}
use Rattle.job_script.proofs.names.NamePlaces.new.Goals as goal

pub invariant_of-result : goal.invariant_of-result
invariant_of-result c = rw (c.new.ensures.empty) (no_areas _ refl)
