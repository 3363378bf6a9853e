use Rattle.language_server.proofs.Referring.{writings_are_in}
use Rattle.language_server.proofs.laws.writings_are_in_texts.Goals as goal

pub returns : goal.returns
returns c = writings_are_in
