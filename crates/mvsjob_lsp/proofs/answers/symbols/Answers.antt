use Rattle.std.proofs.Common.{refl}
use Rattle.mvsjob_lsp.specs.Values.{symbols_value}
use Rattle.mvsjob_lsp.proofs.Chained.{on_ok}
use Rattle.mvsjob_lsp.proofs.answers.symbols.Goals as goal

pub returns : goal.returns
returns c = on_ok c.write_symbols.result (λ e. (symbols_value c.args.document.now.text c.in_ok-found.found.items, (c.in_ok-found.found.items, c.in_ok-found.ensures, refl), e)) (rw c.deref.ensures.value at c.write_symbols.ensures)
