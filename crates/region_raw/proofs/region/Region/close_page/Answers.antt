use Rattle.std.proofs.Common.{None, arith}
use Rattle.region_raw.proofs.PageRows.{open_within}
use Rattle.region_raw.proofs.Parts.{count_is, page_set, page_within}
use Rattle.region_raw.proofs.region.Region.close_page.Goals as goal

pub overflow_mul-page : goal.overflow_mul-page
overflow_mul-page c =
    let within = open_within c.args.self.now c.args.page c.requires in
    record { fits = omega (arith, within, c.self.invariant.0, count_is c.self.inside.count c.self.inside.block c.self.invariant c.args.self.now c.self.view_is) }

pub close-requires : goal.close-requires
close-requires c = page_within c.self.inside.count c.self.inside.block c.self.invariant c.args.self.now c.self.view_is c.args.page (open_within c.args.self.now c.args.page c.requires)

pub invariant_of-self : goal.invariant_of-self
invariant_of-self c = (page_set c.self.inside.count c.self.inside.block c.self.invariant c.args.self.now c.self.view_is c.args.page None (open_within c.args.self.now c.args.page c.requires) tt c.close.new.self c.close.ensures).0

pub returns : goal.returns
returns c = (page_set c.self.inside.count c.self.inside.block c.self.invariant c.args.self.now c.self.view_is c.args.page None (open_within c.args.self.now c.args.page c.requires) tt c.close.new.self c.close.ensures).1
