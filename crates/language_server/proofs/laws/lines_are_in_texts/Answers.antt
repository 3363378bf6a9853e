use Rattle.language_server.proofs.Starts.{lines_are_in}
use Rattle.language_server.proofs.laws.lines_are_in_texts.Goals as goal

pub returns : goal.returns
returns c = lines_are_in
