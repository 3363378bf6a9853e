use Rattle.std.proofs.Common.{refl}
use Rattle.json.specs.Json.{no_items}
use Rattle.mvsjob_lsp.proofs.Chained.{on_ok}
use Rattle.mvsjob_lsp.proofs.session.EditorSession.write_analysed.Goals as goal

pub returns-in-None : goal.returns-in-None
returns-in-None c = rw (← c.in-None.ensures.found) (on_ok c.write_no_notes.result (λ e. (no_items, refl, e)) c.write_no_notes.ensures)
