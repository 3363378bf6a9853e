use Rattle.std.proofs.Common.{rules, ◌<◌, length, arith}
use Rattle.mvs_model.specs.Storage.{is_one_of}
use Rattle.subpool_store.proofs.PagesDropped.{dropped_next}
use Rattle.subpool_store.proofs.dropping.drop_pages.Goals as goal

pub pages-preserved : goal.pages-preserved
pages-preserved c =
    let first = c.first_of-page-in-pages.ensures in
    let low : c.pages.page < length c.pages.pages = omega (arith, c.pages-test.true, c.pages-in-pages.ensures.pages) in record {
      dropped = dropped_next (is_one_of c.args.subpools.now) c.args.memory.now.held c.pages.memory.held c.close_page.new.memory.held c.args.pages.now c.pages.pages c.close_page.new.pages c.pages.page c.first_of-page-in-pages.result
          c.pages.invariant.dropped (c.pages.invariant.found low) c.close_page.ensures.unassigned c.close_page.ensures.marked first;
      within = first.within;
      found = first.found;
      opened = c.close_page.ensures.opened;
      stays = search rules;
    }
