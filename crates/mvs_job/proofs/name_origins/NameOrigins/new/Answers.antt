use Rattle.std.proofs.Common.{ap}
use Rattle.std.specs.FinMap as map
use Rattle.mvs_model.specs.Name.{name_cmp}
use Rattle.mvs_job.proofs.InOrder.{none_in_order}
use Rattle.mvs_job.proofs.name_origins.NameOrigins.new.Goals as goal

pub invariant_of-result : goal.invariant_of-result
invariant_of-result c = none_in_order (map.from_entries {R = name_cmp} c.new.result.entries) c.new-2.result.items (ap (λ es. map.from_entries {R = name_cmp} es) c.new.ensures.empty) c.new-2.ensures.items
