use Rattle.json.specs.Json.{no_items}
use Rattle.mvsjob_lsp.specs.Values.{location_value}
use Rattle.mvsjob_lsp.proofs.Listed.{listed}
use Rattle.mvsjob_lsp.proofs.Chained.{after, on_ok}
use Rattle.mvsjob_lsp.proofs.replies.write_locations.Goals as goal

pub returns : goal.returns
returns c = rw (listed (location_value c.args.document.now.text c.args.uri.now) c.args.spans.now no_items) (on_ok c.end_list.result (λ e. after c.in_ok-begin_list.ensures (after (rw (c.new-places.ensures c.text.ensures.bound, c.text.ensures.text) at c.in_ok-write_each_location.ensures) e)) c.end_list.ensures)
