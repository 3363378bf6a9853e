use Rattle.mvsjob_lsp.proofs.Chained.{after, on_ok}
use Rattle.mvsjob_lsp.proofs.replies.begin_symbol.Goals as goal

pub returns-clause-tokens : goal.returns-clause-tokens
returns-clause-tokens c =
    on_ok c.list.result
    (λ e. after c.in_ok-begin.ensures
    (after (rw (c.shown.ensures, c.name.ensures) at c.in_ok-text.ensures)
    (after (rw (c.symbol_word.ensures, c.is_step-is_step.ensures) at c.in_ok-text-2.ensures)
    (after (rw (c.symbol_number.ensures, c.is_step-is_step.ensures) at c.in_ok-number.ensures)
    (after (rw c.whole.ensures at c.in_ok-write_far.ensures.tokens)
    (after (rw (c.in_ok-write_far.ensures.text, c.span.ensures) at c.in_ok-write_range.ensures.tokens) e))))))
    c.list.ensures
