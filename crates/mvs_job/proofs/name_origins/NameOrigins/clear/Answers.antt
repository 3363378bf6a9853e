use Rattle.std.proofs.Common.{ap}
use Rattle.std.specs.FinMap as map
use Rattle.mvs_model.specs.Name.{name_cmp}
use Rattle.mvs_job.proofs.InOrder.{none_in_order}
use Rattle.mvs_job.proofs.name_origins.NameOrigins.clear.Goals as goal

pub invariant_of-self : goal.invariant_of-self
invariant_of-self c = none_in_order (map.from_entries {R = name_cmp} c.clear.new.self.entries) c.clear-2.new.self.items (ap (λ es. map.from_entries {R = name_cmp} es) c.clear.ensures.empty) c.clear-2.ensures.items
