use Rattle.std.proofs.Common.{◌≡◌, ◌++◌, drop, false}
use Rattle.mvsjob_lsp.specs.Tokens.{symbols_from}
use Rattle.mvsjob_lsp.proofs.replies.write_each_symbol.Given as goal

abbrev pub invariant-loop-symbol : goal.invariant-loop-symbol
invariant-loop-symbol l = record {
  text : l.places ≡ l.fn.places;
  tokens : l.objects ++ symbols_from l.fn.places l.is_open (drop l.symbol-index l.symbols) ≡ l.fn.objects ++ symbols_from l.fn.places false l.symbols;
}
