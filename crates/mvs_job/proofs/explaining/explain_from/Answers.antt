use Rattle.mvs_job.proofs.ExplainedLine.{exchanged_printing}
use Rattle.mvs_job.proofs.Forgetting.{ended_text, given_up_text}
use Rattle.mvs_job.proofs.Printed.{err_so, ok_so}
use Rattle.mvs_job.specs.Explained.{explained}
use Rattle.mvs_job.proofs.explaining.explain_from.Goals as goal

pub returns-clause-ok : goal.returns-clause-ok
returns-clause-ok g c = ok_so c.run_source.result _ _ c.run_source.ensures.ok (λ o h. ended_text explained _ _ _ _ _ _ o h)

pub returns-clause-run : goal.returns-clause-run
returns-clause-run g c = ok_so c.run_source.result _ _ c.run_source.ensures.ok (λ o h. exchanged_printing c.explained_are_printings.ensures _ _ _ _ o (ended_text explained _ _ _ _ _ _ o h))

pub returns-clause-fault : goal.returns-clause-fault
returns-clause-fault g c = err_so c.run_source.result _ _ c.run_source.ensures.fault (λ fault h. given_up_text explained _ _ _ _ _ _ fault h)
