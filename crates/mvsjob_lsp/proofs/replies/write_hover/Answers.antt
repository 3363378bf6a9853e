use Rattle.mvsjob_lsp.proofs.Chained.{after, on_ok}
use Rattle.mvsjob_lsp.proofs.replies.write_hover.Goals as goal

pub returns : goal.returns
returns c = on_ok c.end.result (λ e. after c.in_ok-begin.ensures (after (rw c.text-2.ensures at c.in_ok-write_markdown.ensures) (after (rw (c.new-places.ensures c.text.ensures.bound, c.text.ensures.text, c.span.ensures) at c.in_ok-write_range.ensures.tokens) e))) c.end.ensures
