use Rattle.mvsjob_lsp.proofs.Chained.{after, on_ok}
use Rattle.mvsjob_lsp.proofs.replies.write_location.Goals as goal

pub returns-clause-tokens : goal.returns-clause-tokens
returns-clause-tokens c = on_ok c.end.result (λ e. after c.in_ok-begin.ensures (after c.in_ok-text.ensures (after c.in_ok-write_range.ensures.tokens e))) c.end.ensures
