use Rattle.mvsjob_lsp.proofs.Chained.{after, on_ok}
use Rattle.mvsjob_lsp.proofs.replies.write_changes.Goals as goal

pub returns-clause-tokens : goal.returns-clause-tokens
returns-clause-tokens c = on_ok c.end-2.result (λ e. after c.in_ok-object.ensures (after c.in_ok-object-2.ensures (after c.in_ok-list.ensures (after (rw (c.span.ensures, c.new_text.ensures) at c.in_ok-write_edit.ensures.tokens) (after c.in_ok-end_list.ensures (after c.in_ok-end.ensures e)))))) c.end-2.ensures
