use Rattle.mvsjob_lsp.proofs.Chained.{after, on_ok}
use Rattle.mvsjob_lsp.proofs.places.DocumentPlaces.write_range.Goals as goal

pub returns-clause-tokens : goal.returns-clause-tokens
returns-clause-tokens c = on_ok c.end.result (λ e. after c.in_ok-object.ensures (after c.in_ok-write_place.ensures.tokens (after (rw c.in_ok-write_place.ensures.text at c.in_ok-write_place-2.ensures.tokens) e))) c.end.ensures
