use Rattle.std.proofs.Common.{◌∙◌}
use Rattle.line_text.proofs.SameNames.{same_is}
use Rattle.line_text.proofs.names.is_same_name.Goals as goal

pub returns : goal.returns
returns c = c.eq.ensures ∙ same_is c.args.one.now c.args.other.now
