use Rattle.std.proofs.Common.{◌∙◌}
use Rattle.language_server.proofs.TakenLines.{mapped}
use Rattle.language_server.proofs.line_outputs.has_number.Goals as goal

pub returns : goal.returns
returns c = c.is_some.ensures ∙ mapped c.numbered.result _ c.numbered.ensures
