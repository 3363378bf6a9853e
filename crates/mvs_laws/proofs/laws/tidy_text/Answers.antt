use Rattle.mvs_laws.proofs.TidySteps as steps
use Rattle.mvs_laws.proofs.laws.tidy_text.Goals as goal

pub returns-clause-answers : goal.returns-clause-answers
returns-clause-answers c = steps.tidy_run

pub returns-clause-text : goal.returns-clause-text
returns-clause-text c = steps.tidy_text
