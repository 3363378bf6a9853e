use Rattle.std.proofs.Common.{◌∙◌, ap}
use Rattle.job_script.proofs.Named.{mapped_ok}
use Rattle.area_history.proofs.Recording.{ok_maps}
use Rattle.page.specs.Items.{item_of_event}
use Rattle.page.proofs.pages.PageItems.put_item.Goals as goal

pub returns-clause-item : goal.returns-clause-item
returns-clause-item c =
    let l = c.args.numbered.now in
    let w = c.args.walk.now in
    let texts = rw (mapped_ok c.put_texts.result c.map_err.result _ _ c.map_err.ensures.cases c.in_ok-map_err.was) at c.put_texts.ensures.explanation in
    ok_maps c.put_item.result (λ h has. h has ∙ ap (λ words. item_of_event l.number l.line.now w.read w c.args.line_event.now words) texts) c.put_item.ensures
