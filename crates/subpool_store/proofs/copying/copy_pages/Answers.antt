use Rattle.std.proofs.Common.{◌+◌, ◌<◌, ◌≤◌, ◌≡◌, get_or, length, replicate, None, false, is_some, refl, sym, ap, ◌∙◌, arith}
use Rattle.subpool_store.proofs.PagesCopied.{all_copied, begun, one_more, passed}
use Rattle.subpool_store.proofs.copying.copy_pages.Goals as goal

pub pages-init : goal.pages-init
pages-init c =
    let first = c.first_assigned-page.ensures.first in
    record {
      within = first.within;
      found = first.found;
      copied = begun c.args.pages.now c.args.region.now c.requires c.first_assigned-page.result.0 c.in_ok-copy.copy (c.in_ok-copy.ensures.blank ∙ ap (λ n. replicate n None) c.pages-2.ensures.pages) first;
    }

pub copy_page-requires-clause-blank : goal.copy_page-requires-clause-blank
copy_page-requires-clause-blank c =
    let low : c.pages.page < length c.args.pages.now = omega (arith, c.pages-test.true, c.pages-in-pages.ensures.pages) in
    (omega (arith, low, c.requires.sizes, c.pages.invariant.copied.sizes), ap is_some (c.pages.invariant.copied.rest c.pages.page (omega arith)))

pub copy_page-requires-clause-open : goal.copy_page-requires-clause-open
copy_page-requires-clause-open c =
    let low : c.pages.page < length c.args.pages.now = omega (arith, c.pages-test.true, c.pages-in-pages.ensures.pages) in
    c.requires.each c.pages.page ∙ c.pages.invariant.found low

pub pages-preserved : goal.pages-preserved
pages-preserved c =
    let low : c.pages.page < length c.args.pages.now = omega (arith, c.pages-test.true, c.pages-in-pages.ensures.pages) in
    let first = c.first_assigned-page-in-pages.ensures.first in
    let more = one_more c.args.region.now c.pages.page (c.pages.page + 1) c.pages.copy c.copy_page.new.self c.pages.invariant.copied (omega (arith, low, c.requires.sizes)) refl c.copy_page.ensures in
    record {
      within = first.within;
      found = first.found;
      copied = passed c.args.pages.now c.args.region.now c.requires (c.pages.page + 1) c.first_assigned-page-in-pages.result.0 c.copy_page.new.self more first;
    }

pub returns : goal.returns
returns c = all_copied c.args.region.now c.pages.page c.pages.copy c.pages.invariant.copied (omega (arith, c.requires.sizes, c.pages-test.false, c.pages-in-pages.ensures.pages))
