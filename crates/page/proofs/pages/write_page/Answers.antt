use Rattle.std.proofs.lemmas.Result.{err_from_is_err_and}
use Rattle.mvs_job.proofs.Forgetting.{left_text}
use Rattle.page.proofs.Paged.{page_after, page_cut, page_shows}
use Rattle.page.specs.Pages.{paged}
use Rattle.page.proofs.pages.write_page.Goals as goal

pub returns-in_err-write_all-clause-page : goal.returns-in_err-write_all-clause-page
returns-in_err-write_all-clause-page g c =
    let p = err_from_is_err_and c.from_residual.result c.from_residual.ensures.1 in
    rw (p.1, p.2) (page_cut _ _ c.args.frame.now c.args.script.now c.in_err-write_all.ensures.bytes)

pub returns-clause-page : goal.returns-clause-page
returns-clause-page g c = page_after _ _ _ c.args.frame.now c.args.script.now c.run_lines.result c.in_ok-write_all.ensures.bytes (left_text paged _ _ _ c.args.script.now _ c.run_lines.result c.run_lines.ensures.written)

pub returns-clause-shown : goal.returns-clause-shown
returns-clause-shown g c =
    page_shows _ _ c.args.frame.now c.args.script.now c.run_lines.result
    (page_after _ _ _ c.args.frame.now c.args.script.now c.run_lines.result c.in_ok-write_all.ensures.bytes (left_text paged _ _ _ c.args.script.now _ c.run_lines.result c.run_lines.ensures.written))
