use Rattle.std.proofs.Common.{refl}
use Rattle.mvsjob_lsp.specs.Values.{action_value, list_of}
use Rattle.mvsjob_lsp.proofs.Chained.{on_ok}
use Rattle.mvsjob_lsp.proofs.answers.actions.Goals as goal

pub returns : goal.returns
returns c = on_ok c.write_actions.result (λ e. (list_of (action_value c.args.document.now.text c.args.uri.now) c.in_ok-actions.actions.items, (record { start = c.place.result; end = c.place-2.result }, c.in_ok-actions.actions.items, c.place.ensures, c.place-2.ensures, c.in_ok-actions.ensures, refl), e)) (rw c.deref.ensures.value at c.write_actions.ensures)
