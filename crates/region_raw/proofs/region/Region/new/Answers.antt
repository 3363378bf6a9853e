use Rattle.std.proofs.Common.{◌∙◌, ◌*◌, ◌<◌, None, replicate, refl, arith}
use Rattle.std.proofs.lemmas.List.{length-replicate}
use Rattle.mvs_model.specs.Numbers.{page_bytes}
use Rattle.region_raw.proofs.PageRows.{are_blank, spread_blank, seen}
use Rattle.region_raw.proofs.region.Region.new.Goals as goal

pub invariant_of-result : goal.invariant_of-result
invariant_of-result c =
    let n = c.args.pages in let pos : 0 < page_bytes = omega arith in
    (c.requires, (replicate n None, are_blank page_bytes pos n, length-replicate n None, c.in_ok-block.ensures.blank ∙ spread_blank page_bytes pos n (n * page_bytes) refl))

pub returns-clause-blank : goal.returns-clause-blank
returns-clause-blank c =
    let n = c.args.pages in let pos : 0 < page_bytes = omega arith in
    seen page_bytes pos (replicate n None) n c.in_ok-block.block (are_blank page_bytes pos n) (length-replicate n None) (c.in_ok-block.ensures.blank ∙ spread_blank page_bytes pos n (n * page_bytes) refl)
