use Rattle.mvsjob_lsp.proofs.Chained.{after, on_ok}
use Rattle.mvsjob_lsp.proofs.replies.write_no_notes.Goals as goal

pub returns : goal.returns
returns c = on_ok c.end_list.result (λ e. after c.in_ok-list.ensures e) c.end_list.ensures
