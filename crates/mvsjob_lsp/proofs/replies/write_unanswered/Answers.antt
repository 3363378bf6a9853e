use Rattle.mvsjob_lsp.proofs.Chained.{after, on_ok}
use Rattle.mvsjob_lsp.proofs.replies.write_unanswered.Goals as goal

pub returns : goal.returns
returns c = on_ok c.end_list.result (λ e. after c.in_ok-list.ensures (after (rw c.text.ensures at c.in_ok-write_message.ensures) e)) c.end_list.ensures
