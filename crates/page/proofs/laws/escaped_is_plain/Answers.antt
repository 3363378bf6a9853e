use Rattle.page.proofs.Plain.{escaped_plain}
use Rattle.page.proofs.laws.escaped_is_plain.Goals as goal

pub returns : goal.returns
returns c = escaped_plain
