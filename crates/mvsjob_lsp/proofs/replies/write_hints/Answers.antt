use Rattle.json.specs.Json.{no_items}
use Rattle.mvsjob_lsp.specs.Values.{hint_value}
use Rattle.mvsjob_lsp.proofs.Listed.{listed}
use Rattle.mvsjob_lsp.proofs.Chained.{after, on_ok}
use Rattle.mvsjob_lsp.proofs.replies.write_hints.Goals as goal

pub returns : goal.returns
returns c = rw (listed (hint_value c.args.document.now.text) c.args.hints.now no_items) (on_ok c.end_list.result (λ e. after c.in_ok-begin_list.ensures (after (rw (c.new-places.ensures c.text.ensures.bound, c.text.ensures.text) at c.in_ok-write_each_hint.ensures) e)) c.end_list.ensures)
