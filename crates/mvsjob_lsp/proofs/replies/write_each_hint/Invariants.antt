use Rattle.std.proofs.Common.{◌≡◌, ◌++◌, drop}
use Rattle.mvsjob_lsp.specs.Tokens.{each}
use Rattle.mvsjob_lsp.specs.Values.{hint_value}
use Rattle.mvsjob_lsp.proofs.replies.write_each_hint.Given as goal

abbrev pub invariant-loop-hint : goal.invariant-loop-hint
invariant-loop-hint l = record {
  text : l.places ≡ l.fn.places;
  tokens : l.objects ++ each (hint_value l.fn.places) (drop l.hint-index l.hints) ≡ l.fn.objects ++ each (hint_value l.fn.places) l.hints;
}
