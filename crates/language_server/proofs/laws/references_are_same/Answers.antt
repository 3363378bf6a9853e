use Rattle.language_server.proofs.Referring.{references_same}
use Rattle.language_server.proofs.laws.references_are_same.Goals as goal

pub returns : goal.returns
returns c = references_same
