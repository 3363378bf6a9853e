use Rattle.std.proofs.Common.{◌∙◌, ap, length, arith}
use Rattle.region_raw.proofs.Copies.{blank_run, copied, open_run}
use Rattle.region_raw.proofs.PageRows.{open_within}
use Rattle.region_raw.proofs.Parts.{count_is}
use Rattle.region_raw.proofs.region.Region.copy_page.Goals as goal

pub overflow_mul-page : goal.overflow_mul-page
overflow_mul-page c = record { fits = omega (arith, open_within c.args.from.now c.args.page c.requires.open, c.from.invariant.0, count_is c.from.inside.count c.from.inside.block c.from.invariant c.args.from.now c.from.view_is) }

pub overflow_mul-page-2 : goal.overflow_mul-page-2
overflow_mul-page-2 c = record { fits = omega (arith, open_within c.args.from.now c.args.page c.requires.open, c.from.invariant.0, count_is c.from.inside.count c.from.inside.block c.from.invariant c.args.from.now c.from.view_is) }

pub part-bytes-requires : goal.part-bytes-requires
part-bytes-requires c = (open_run c.from.inside.count c.from.inside.block c.from.invariant c.args.from.now c.from.view_is c.args.page c.requires.open).3

pub open_with-requires-clause-blank : goal.open_with-requires-clause-blank
open_with-requires-clause-blank c =
    let o = open_run c.from.inside.count c.from.inside.block c.from.invariant c.args.from.now c.from.view_is c.args.page c.requires.open in
    blank_run c.self.inside.count c.self.inside.block c.self.invariant c.args.self.now c.self.view_is c.args.page (length c.part-bytes.result.now)
    (ap length (c.part-bytes.ensures ∙ o.4) ∙ o.2) c.requires.blank

pub open_with-requires-clause-small : goal.open_with-requires-clause-small
open_with-requires-clause-small c =
    let o = open_run c.from.inside.count c.from.inside.block c.from.invariant c.args.from.now c.from.view_is c.args.page c.requires.open in
    omega (arith, ap length (c.part-bytes.ensures ∙ o.4) ∙ o.2, c.requires.blank.0, c.self.invariant.0, count_is c.self.inside.count c.self.inside.block c.self.invariant c.args.self.now c.self.view_is)

pub invariant_of-self : goal.invariant_of-self
invariant_of-self c =
    let o = open_run c.from.inside.count c.from.inside.block c.from.invariant c.args.from.now c.from.view_is c.args.page c.requires.open in
    (copied c.self.inside.count c.self.inside.block c.self.invariant c.args.self.now c.self.view_is c.args.page _ o.0 c.part-bytes.result.now c.open_with.new.self c.requires.blank.0 o.1 o.2 (c.part-bytes.ensures ∙ o.4) c.open_with.ensures).0

pub returns : goal.returns
returns c =
    let o = open_run c.from.inside.count c.from.inside.block c.from.invariant c.args.from.now c.from.view_is c.args.page c.requires.open in
    (copied c.self.inside.count c.self.inside.block c.self.invariant c.args.self.now c.self.view_is c.args.page _ o.0 c.part-bytes.result.now c.open_with.new.self c.requires.blank.0 o.1 o.2 (c.part-bytes.ensures ∙ o.4) c.open_with.ensures).1
