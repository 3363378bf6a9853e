use Rattle.std.proofs.Common.{refl}
use Rattle.json.specs.Json.{null}
use Rattle.mvsjob_lsp.proofs.session.EditorSession.about.Goals as goal

pub returns-in_ok-text-in-None : goal.returns-in_ok-text-in-None
returns-in_ok-text-in-None c = rw (← c.in-None.ensures.found) (null, refl, c.in_ok-text-in-None.ensures)
