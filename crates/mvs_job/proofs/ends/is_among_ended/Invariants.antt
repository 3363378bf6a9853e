use Rattle.std.proofs.Common.{◌≡◌, drop}
use Rattle.std.specs.Prelude.{◌||◌}
use Rattle.std.specs.List.{list_any}
use Rattle.mvs_model.specs.Name.{same_name}
use Rattle.mvs_model.specs.Owners.{is_among_ended}
use Rattle.mvs_job.proofs.ends.is_among_ended.Given as goal

abbrev pub invariant-loop-name : goal.invariant-loop-name
invariant-loop-name l = (l.any || list_any (same_name l.other) (drop l.name-index l.fallen)) ≡ is_among_ended l.task l.fallen l.other
