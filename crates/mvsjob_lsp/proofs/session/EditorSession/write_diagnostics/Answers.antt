use Rattle.std.proofs.Common.{refl}
use Rattle.mvsjob_lsp.specs.Values.{unanswered_items}
use Rattle.mvsjob_lsp.proofs.Chained.{on_ok}
use Rattle.mvsjob_lsp.proofs.session.EditorSession.write_diagnostics.Goals as goal

pub returns-in-Err : goal.returns-in-Err
returns-in-Err c = rw c.in-Err.is (on_ok c.write_unanswered.result (λ e. (unanswered_items c.in-Err.why, refl, e)) c.write_unanswered.ensures)
