use Rattle.mvsjob_lsp.proofs.Chained.{after, on_ok}
use Rattle.mvsjob_lsp.proofs.replies.write_note.Goals as goal

pub returns-clause-tokens : goal.returns-clause-tokens
returns-clause-tokens c =
    rw (← c.note.view_is)
    (on_ok c.end.result
    (λ e. after c.in_ok-begin.ensures (after c.in_ok-write_range.ensures.tokens (after (rw c.severity_of.ensures at c.in_ok-number.ensures) (after (rw c.deref.ensures at c.in_ok-text.ensures) (after c.in_ok-text-2.ensures (after (rw c.deref-2.ensures at c.in_ok-text-3.ensures) e))))))
    c.end.ensures)
