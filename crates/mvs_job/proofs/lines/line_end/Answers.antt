use Rattle.mvs_job.proofs.LineEnd.{line_before, line_whole}
use Rattle.mvs_job.proofs.lines.line_end.Goals as goal

pub returns-in-Some-clause-lines : goal.returns-in-Some-clause-lines
returns-in-Some-clause-lines c = line_before c.args.script.now c.in-Some.end c.in-Some.ensures.0 c.in-Some.ensures.1 c.in-Some.ensures.2

pub returns-in-None-clause-lines : goal.returns-in-None-clause-lines
returns-in-None-clause-lines c = line_whole c.args.script.now c.requires c.in-None.ensures
