use Rattle.std.proofs.Common.{Some, None, refl}
use Rattle.json.specs.Json.{null}
use Rattle.mvsjob_lsp.specs.Values.{hover_value}
use Rattle.mvsjob_lsp.proofs.Chained.{on_ok}
use Rattle.mvsjob_lsp.proofs.answers.hover.Goals as goal

pub returns-in-Some : goal.returns-in-Some
returns-in-Some c = on_ok c.write_hover.result (λ e. (hover_value c.args.document.now.text c.in-Some.hover, (c.place.result, Some c.in-Some.hover, c.place.ensures, (rw c.in-Some.is at c.in_ok-hover.ensures), refl), e)) c.write_hover.ensures

pub returns-in-None : goal.returns-in-None
returns-in-None c = on_ok c.null.result (λ e. (null, (c.place.result, None, c.place.ensures, (rw c.in-None.is at c.in_ok-hover.ensures), refl), e)) c.null.ensures
