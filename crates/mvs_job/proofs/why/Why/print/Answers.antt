use Rattle.mvs_job.proofs.why.Why.print.Goals as goal

pub returns-in-Statement : goal.returns-in-Statement
returns-in-Statement g c = rw (c.in-Some.is, c.in-Statement.is) c.print_reason.ensures
