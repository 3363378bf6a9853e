use Rattle.mvsjob_lsp.proofs.Chained.{after, on_ok}
use Rattle.mvsjob_lsp.proofs.places.write.Goals as goal

pub returns : goal.returns
returns c = on_ok c.end.result (λ e. after c.in_ok-object.ensures (after c.in_ok-number.ensures (after c.in_ok-number-2.ensures e))) c.end.ensures
