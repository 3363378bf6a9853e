use Rattle.mvsjob_lsp.proofs.Chained.{after, on_ok}
use Rattle.mvsjob_lsp.proofs.replies.write_action.Goals as goal

pub returns-clause-tokens : goal.returns-clause-tokens
returns-clause-tokens c = on_ok c.end.result (λ e. after c.in_ok-begin.ensures (after (rw c.title.ensures at c.in_ok-text.ensures) (after (rw (c.action_kind.ensures, c.is_fix.ensures) at c.in_ok-text-2.ensures) (after c.in_ok-write_changes.ensures.tokens e)))) c.end.ensures
