use Rattle.std.proofs.Common.{refl}
use Rattle.json.specs.Json.{null}
use Rattle.mvsjob_lsp.proofs.Chained.{on_ok}
use Rattle.mvsjob_lsp.proofs.answers.write_null.Goals as goal

pub returns : goal.returns
returns c = on_ok c.null.result (λ e. (null, refl, e)) c.null.ensures
