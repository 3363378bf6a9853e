use Rattle.std.proofs.Common.{[], ap, ◌∙◌}
use Rattle.std.specs.Prelude.{unwrap_or}
use Rattle.language_server.specs.Fixes.{word_of}
use Rattle.language_server.proofs.releases.obtained_by.Goals as goal

pub returns : goal.returns
returns c = c.or_empty.ensures ∙ ap (λ o. unwrap_or o []) (c.word_of.ensures ∙ ap word_of c.after.ensures)
