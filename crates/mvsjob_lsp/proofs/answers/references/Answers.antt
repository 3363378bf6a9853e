use Rattle.std.proofs.Common.{refl}
use Rattle.mvsjob_lsp.specs.Values.{list_of, location_value}
use Rattle.mvsjob_lsp.proofs.Chained.{on_ok}
use Rattle.mvsjob_lsp.proofs.answers.references.Goals as goal

pub returns : goal.returns
returns c = on_ok c.write_locations.result (λ e. (list_of (location_value c.args.document.now.text c.args.uri.now) c.in_ok-spans.spans.items, (c.place.result, c.in_ok-spans.spans.items, c.place.ensures, c.in_ok-spans.ensures, refl), e)) (rw c.deref.ensures.value at c.write_locations.ensures)
