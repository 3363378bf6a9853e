use Rattle.std.proofs.Common.{◌+◌, ◌/◌, Bool, List, false, get_or, subst, ap, ◌∙◌, arith}
use Rattle.subpool_store.specs.Edits.{IsGivenUp}
use Rattle.subpool_store.proofs.Marked.{given_more}
use Rattle.subpool_store.proofs.region_store.give_up_pages.Goals as goal

pub loop-page-preserved : goal.loop-page-preserved
loop-page-preserved c =
    let now = c.loop-page.invariant in let old = c.args.memory.now in let page = c.loop-page.page in let more = c.give_up_page.ensures in record {
      given = given_more old.held c.args.pages.now c.loop-page.pages c.give_up_page.new.pages c.args.from page (omega arith) now.given
          (subst (λ (l : List Bool). IsGivenUp l c.loop-page.pages page (page + 1) c.give_up_page.new.pages) now.held more.given);
      opened = more.opened;
      held = more.held ∙ now.held;
      stays = λ k set. more.stays k (ap (λ (l : List Bool). get_or l (k / 8) false) now.held ∙ set) ∙ now.stays k set;
    }
