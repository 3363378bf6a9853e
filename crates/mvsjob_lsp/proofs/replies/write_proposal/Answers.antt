use Rattle.mvsjob_lsp.proofs.Chained.{after, on_ok}
use Rattle.mvsjob_lsp.proofs.replies.write_proposal.Goals as goal

pub returns-clause-tokens : goal.returns-clause-tokens
returns-clause-tokens c =
    on_ok c.end.result
    (λ e. after c.in_ok-begin.ensures (after (rw c.text.ensures at c.in_ok-text.ensures) (after (rw (c.kind_of.ensures, c.kind.ensures) at c.in_ok-number.ensures) (after (rw c.detail.ensures at c.in_ok-text-2.ensures) (after c.in_ok-key.ensures (after (rw c.text-4.ensures at c.in_ok-write_edit.ensures.tokens) e))))))
    c.end.ensures
