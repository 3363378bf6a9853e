use Rattle.std.proofs.Common.{ap}
use Rattle.mvsjob_lsp.specs.Values.{hint_value, list_of}
use Rattle.mvsjob_lsp.proofs.Chained.{on_ok}
use Rattle.mvsjob_lsp.proofs.answers.hints.Goals as goal

pub returns : goal.returns
returns c = on_ok c.write_hints.result (λ e. (list_of (hint_value c.args.document.now.text) c.in_ok-hints.hints.items, (c.place-first.result, c.place-last.result, c.place-first.ensures, c.place-last.ensures, ap (list_of (hint_value c.args.document.now.text)) (rw (c.line_of.ensures.exact, c.line_of-2.ensures.exact) at c.in_ok-hints.ensures)), e)) (rw c.deref.ensures.value at c.write_hints.ensures)
