use Rattle.std.proofs.Common.{◌*◌, ◌<◌, ◌∙◌, None, Some, replicate, take, drop, refl, ap, arith}
use Rattle.std.proofs.lemmas.List.{length-replicate}
use Rattle.mvs_model.specs.Numbers.{page_bytes}
use Rattle.region_raw.specs.Pages.{page_row}
use Rattle.region_raw.proofs.PageRows.{blank_is, run_of_page}
use Rattle.region_raw.proofs.Parts.{are_pages, block_is, count_is, page_set, page_within}
use Rattle.region_raw.proofs.region.Region.open_page.Goals as goal

pub overflow_mul-page : goal.overflow_mul-page
overflow_mul-page c = record { fits = omega (arith, c.requires.0, c.self.invariant.0, count_is c.self.inside.count c.self.inside.block c.self.invariant c.args.self.now c.self.view_is) }

pub open-requires-clause-blank : goal.open-requires-clause-blank
open-requires-clause-blank c =
    let view = c.args.self.now in let p = c.args.page in let pos : 0 < page_bytes = omega arith in (
      page_within c.self.inside.count c.self.inside.block c.self.invariant c.args.self.now c.self.view_is p c.requires.0,
      ap (λ l. take page_bytes (drop (p * page_bytes) l)) (block_is c.self.inside.count c.self.inside.block c.self.invariant c.args.self.now c.self.view_is)
          ∙ run_of_page page_bytes pos view p (p * page_bytes) None (are_pages c.self.inside.count c.self.inside.block c.self.invariant c.args.self.now c.self.view_is) c.requires.0 refl
          ∙ ap (page_row page_bytes) (blank_is view p c.requires.1),
    )

pub open-requires-clause-small : goal.open-requires-clause-small
open-requires-clause-small c = omega (arith, c.requires.0, c.self.invariant.0, count_is c.self.inside.count c.self.inside.block c.self.invariant c.args.self.now c.self.view_is)

pub invariant_of-self : goal.invariant_of-self
invariant_of-self c =
    let q = Some (replicate page_bytes c.args.fill) in
    (page_set c.self.inside.count c.self.inside.block c.self.invariant c.args.self.now c.self.view_is c.args.page q c.requires.0 (length-replicate page_bytes c.args.fill, tt) c.open.new.self c.open.ensures).0

pub returns : goal.returns
returns c =
    let q = Some (replicate page_bytes c.args.fill) in
    (page_set c.self.inside.count c.self.inside.block c.self.invariant c.args.self.now c.self.view_is c.args.page q c.requires.0 (length-replicate page_bytes c.args.fill, tt) c.open.new.self c.open.ensures).1
