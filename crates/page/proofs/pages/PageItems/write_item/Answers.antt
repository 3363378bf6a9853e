use Rattle.std.proofs.Common.{◌∙◌, subst}
use Rattle.std.proofs.lemmas.Result.{err_from_is_err_and}
use Rattle.line_text.specs.Writing.{AppendsFront}
use Rattle.job_script.proofs.Named.{mapped_ok}
use Rattle.page.specs.Pages.{words_of_line}
use Rattle.page.proofs.Served.{noted_is}
use Rattle.page.proofs.pages.PageItems.write_item.Goals as goal

pub returns-in_err-print_note-clause-item : goal.returns-in_err-print_note-clause-item
returns-in_err-print_note-clause-item g c =
    let w = c.args.walk.now in
    let t = c.args.line_event.now in
    let n = c.args.numbered.now.number in
    let note = noted_is n c.args.numbered.now.line.now w.read w t (words_of_line c.args.self.now n w t) c.in-Nothing.is in
    let p = err_from_is_err_and c.from_residual.result c.from_residual.ensures.1 in
    rw (p.1, p.2) (λ has. subst (AppendsFront _ _) note c.in_err-print_note.ensures.bytes)

pub returns-in_err-write_all-clause-item : goal.returns-in_err-write_all-clause-item
returns-in_err-write_all-clause-item g c =
    let p = err_from_is_err_and c.from_residual-in_err-write_all.result c.from_residual-in_err-write_all.ensures.1 in
    let item = rw (mapped_ok c.put_item.result c.map_err.result _ _ c.map_err.ensures.cases c.in_ok-map_err.was) at c.put_item.ensures.item in
    rw (p.1, p.2) (λ has. subst (AppendsFront _ _) (c.deref.ensures.value ∙ item has) c.in_err-write_all.ensures.bytes)
