use Rattle.mvsjob_lsp.specs.Values.{note_value, rest_not_shown}
use Rattle.mvsjob_lsp.proofs.Listed.{listed}
use Rattle.mvsjob_lsp.proofs.Chained.{after, on_ok, together}
use Rattle.mvsjob_lsp.proofs.replies.write_notes.Goals as goal

pub returns : goal.returns
returns c =
    rw (listed (note_value c.args.document.now.text) c.args.notes.now (rest_not_shown c.args.document.now.is_whole))
    (on_ok c.end_list.result (λ e. after c.in_ok-list.ensures (after (rw (c.new-places.ensures c.text.ensures.bound, c.text.ensures.text) at c.in_ok-write_each_note.ensures) (together e (rw c.is_whole.ensures at c.in_ok-write_rest.ensures)))) c.end_list.ensures)
