use Rattle.mvsjob_lsp.proofs.Chained.{after, on_ok}
use Rattle.mvsjob_lsp.proofs.replies.write_hint.Goals as goal

pub returns-clause-tokens : goal.returns-clause-tokens
returns-clause-tokens c = rw (← c.hint.view_is) (on_ok c.end.result (λ e. after c.in_ok-begin.ensures (after c.in_ok-write_place.ensures.tokens (after (rw (c.shown.ensures, c.deref.ensures.value) at c.in_ok-text.ensures) (after c.in_ok-boolean.ensures e)))) c.end.ensures)
