use Rattle.std.proofs.Common.{Some, None, [], ◌∷◌, refl}
use Rattle.json.specs.Json.{null}
use Rattle.mvsjob_lsp.specs.Values.{list_of, location_value}
use Rattle.mvsjob_lsp.proofs.Chained.{on_ok}
use Rattle.mvsjob_lsp.proofs.answers.definition.Goals as goal

pub returns-in-Some : goal.returns-in-Some
returns-in-Some c = on_ok c.write_locations.result (λ e. (list_of (location_value c.args.document.now.text c.args.uri.now) (c.in-Some.span ∷ []), (c.place.result, Some c.in-Some.span, c.place.ensures, (rw c.in-Some.is at c.in_ok-span.ensures), refl), e)) c.write_locations.ensures

pub returns-in-None : goal.returns-in-None
returns-in-None c = on_ok c.null.result (λ e. (null, (c.place.result, None, c.place.ensures, (rw c.in-None.is at c.in_ok-span.ensures), refl), e)) c.null.ensures
