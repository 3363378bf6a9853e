use Rattle.mvs_c.proofs.Statements as statements
use Rattle.mvs_c.proofs.laws.statements_are_read.Goals as goal

pub returns : goal.returns
returns c = statements.are_read
