use Rattle.std.specs.FinMap as map
use Rattle.mvs_model.specs.Name.{name_cmp}
use Rattle.mvs_job.proofs.InOrder.{former_dropped}
use Rattle.mvs_job.proofs.name_origins.NameOrigins.forget_former.Goals as goal

pub invariant_of-self : goal.invariant_of-self
invariant_of-self c = former_dropped (map.from_entries {R = name_cmp} c.self.inside.numbers.entries) c.self.inside.order.items c.drop_former.new.order.items c.drop_former.ensures c.self.invariant.0 c.self.invariant.1
