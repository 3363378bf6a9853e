use Rattle.mvs_job.proofs.Printed.{err_so, ok_so, printed_answered, printed_before, printed_ended, printed_fault, printed_tidy}
use Rattle.mvs_job.proofs.run.run_from.Goals as goal

pub returns-clause-ok : goal.returns-clause-ok
returns-clause-ok g c = ok_so c.run_source.result _ _ c.run_source.ensures.ok (λ o h. printed_ended _ _ _ _ 16777215 _ _ o h)

-- of a tidy script in full it is the label machine's text
pub returns-clause-tidy : goal.returns-clause-tidy
returns-clause-tidy g c = ok_so c.run_source.result _ _ c.run_source.ensures.ok (λ o h. printed_tidy _ _ _ _ 16777215 _ _ o h)

pub returns-clause-fault : goal.returns-clause-fault
returns-clause-fault g c = err_so c.run_source.result _ _ c.run_source.ensures.fault (λ fault h. printed_fault _ _ _ _ 16777215 _ _ fault h)

pub returns-clause-memory : goal.returns-clause-memory
returns-clause-memory g c = err_so c.run_source.result _ _ c.run_source.ensures.fault (λ fault h. printed_before _ _ _ _ 16777215 _ _ fault h)

pub returns-clause-answered : goal.returns-clause-answered
returns-clause-answered g c = err_so c.run_source.result _ _ c.run_source.ensures.fault (λ fault h. printed_answered _ _ _ _ 16777215 _ _ fault h)
