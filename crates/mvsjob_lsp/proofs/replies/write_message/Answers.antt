use Rattle.mvsjob_lsp.proofs.Chained.{after, on_ok}
use Rattle.mvsjob_lsp.proofs.replies.write_message.Goals as goal

pub returns : goal.returns
returns c = rw (← c.severity_of.ensures) (on_ok c.end.result (λ e. after c.in_ok-begin.ensures (after c.in_ok-write_range.ensures.tokens (after c.in_ok-number.ensures (after c.in_ok-text.ensures (after c.in_ok-text-2.ensures e))))) c.end.ensures)
