use Rattle.mvs_job.proofs.printing.print_answer.Goals as goal

pub returns-in-Data : goal.returns-in-Data
returns-in-Data g c = rw (c.in-Data.is) (c.print_shown.ensures c.args.fallen.now)

pub returns-in-NotRun : goal.returns-in-NotRun
returns-in-NotRun g c = c.print_short_answer.ensures c.args.job.now.state c.args.fallen.now
