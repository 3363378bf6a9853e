use Rattle.job_script.proofs.Conflicts.{number_alone}
use Rattle.job_script.proofs.checks.listed.Goals as goal

pub returns-in-None-clause-numbers : goal.returns-in-None-clause-numbers
returns-in-None-clause-numbers c = (number_alone c.args.text.now c.requires c.in-None.ensures).0

pub returns-in-None-clause-are : goal.returns-in-None-clause-are
returns-in-None-clause-are c = (number_alone c.args.text.now c.requires c.in-None.ensures).1
