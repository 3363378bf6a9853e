use Rattle.language_server.proofs.Mended.{fixes_are_in}
use Rattle.language_server.proofs.laws.fixes_are_in_texts.Goals as goal

pub returns : goal.returns
returns c = fixes_are_in
