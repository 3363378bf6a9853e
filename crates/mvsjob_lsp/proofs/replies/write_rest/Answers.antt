use Rattle.json.specs.Token.{end_array}
use Rattle.mvsjob_lsp.proofs.Chained.{before, on_ok}
use Rattle.mvsjob_lsp.proofs.replies.write_rest.Goals as goal

pub returns : goal.returns
returns c = rw c.if-is_whole.false (on_ok c.write_message.result (λ e. before end_array e) c.write_message.ensures)
