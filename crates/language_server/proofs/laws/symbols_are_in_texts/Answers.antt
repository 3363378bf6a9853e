use Rattle.language_server.proofs.Referring.{symbols_in}
use Rattle.language_server.proofs.laws.symbols_are_in_texts.Goals as goal

pub returns : goal.returns
returns c = symbols_in
