use Rattle.mvsjob_lsp.proofs.Chained.{after, on_ok}
use Rattle.mvsjob_lsp.proofs.replies.write_symbol.Goals as goal

pub returns-clause-tokens : goal.returns-clause-tokens
returns-clause-tokens c =
    on_ok c.end_symbol-2.result (λ e. after (rw c.ends_step.ensures at c.in_ok-end_symbol.ensures) (after c.in_ok-begin_symbol.ensures.tokens e)) (rw c.is_step.ensures at c.end_symbol-2.ensures)
