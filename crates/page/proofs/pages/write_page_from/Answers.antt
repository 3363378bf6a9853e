use Rattle.std.proofs.Common.{◌≡◌, rules}
use Rattle.std.proofs.lemmas.Result.{err_from_is_err_and}
use Rattle.job_script.proofs.Named.{mapped_ok}
use Rattle.mvs_job.specs.declared.run.RunFault.TheVariants.{Write}
use Rattle.mvs_job.proofs.Forgetting.{ended_text, given_up_text}
use Rattle.mvs_job.proofs.Printed.{err_so, ok_so}
use Rattle.page.proofs.Paged.{page_ended, page_given_up, page_unread, read_shows, write_failed}
use Rattle.page.specs.Pages.{paged}
use Rattle.page.proofs.pages.write_page_from.Goals as goal

pub returns-in_err-map_err-clause-fault : goal.returns-in_err-map_err-clause-fault
returns-in_err-map_err-clause-fault g c =
    let p = err_from_is_err_and c.from_residual.result c.from_residual.ensures.1 in
    let why : c.in_err-map_err.field-0.0 ≡ Write = search rules in
    let front = write_failed _ _ c.args.frame.now c.write_all.result c.map_err.result _ _ c.map_err.ensures.cases c.in_err-map_err.was c.write_all.ensures.bytes in
    rw (p.1, p.2, why) (page_unread _ _ _ c.args.frame.now front)

pub returns-clause-page : goal.returns-clause-page
returns-clause-page g c =
    let written = rw (mapped_ok c.write_all.result c.map_err.result _ _ c.map_err.ensures.cases c.in_ok-map_err.was) at c.write_all.ensures.bytes in
    ok_so c.run_source.result _ _ c.run_source.ensures.ok (λ o h. page_ended _ _ _ _ _ c.args.frame.now written o (ended_text paged _ _ _ _ _ _ o h))

pub returns-clause-shown : goal.returns-clause-shown
returns-clause-shown g c =
    let written = rw (mapped_ok c.write_all.result c.map_err.result _ _ c.map_err.ensures.cases c.in_ok-map_err.was) at c.write_all.ensures.bytes in
    ok_so c.run_source.result _ _ c.run_source.ensures.ok (λ o h. read_shows _ _ _ _ c.args.frame.now o (page_ended _ _ _ _ _ c.args.frame.now written o (ended_text paged _ _ _ _ _ _ o h)))

pub returns-clause-fault : goal.returns-clause-fault
returns-clause-fault g c =
    let written = rw (mapped_ok c.write_all.result c.map_err.result _ _ c.map_err.ensures.cases c.in_ok-map_err.was) at c.write_all.ensures.bytes in
    err_so c.run_source.result _ _ c.run_source.ensures.fault (λ fault h. page_given_up _ _ _ _ _ c.args.frame.now written fault (given_up_text paged _ _ _ _ _ _ fault h))
