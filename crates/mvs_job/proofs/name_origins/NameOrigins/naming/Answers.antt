use Rattle.std.proofs.Common.{arith, sym, subst, ◌-◌, ◌∙◌}
use Rattle.mvs_job.specs.NamedAddress.{NameOrigins}
use Rattle.mvs_job.specs.NameOrder.{HasLatest}
use Rattle.mvs_job.proofs.Latest.{latest_is}
use Rattle.mvs_job.proofs.name_origins.NameOrigins.naming.Goals as goal

pub returns-then-is_some : goal.returns-then-is_some
returns-then-is_some c =
    let order = c.self.inside.order.items in
    let latest : HasLatest c.args.self.now order = subst (λ (m : NameOrigins). HasLatest m order) c.self.view_is c.self.invariant.1 in
    latest_is c.args.job.now c.args.self.now c.args.addr order latest c.self.invariant.0 (c.names.at - 1) c.names.at c.index.result.now c.said_by-naming.result (omega arith) (omega arith) (sym c.index.ensures) c.said_by-naming.ensures (sym c.is_some.ensures ∙ c.if-is_some.true) c.names.invariant
