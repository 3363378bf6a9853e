use Rattle.mvs_c.proofs.ListStatements as statements
use Rattle.mvs_c.proofs.laws.list_statements_are_read.Goals as goal

pub returns : goal.returns
returns c = statements.are_read
