use Rattle.std.proofs.Common.{◌≡◌, ◌++◌, drop}
use Rattle.mvsjob_lsp.specs.Tokens.{each}
use Rattle.mvsjob_lsp.specs.Values.{location_value}
use Rattle.mvsjob_lsp.proofs.replies.write_each_location.Given as goal

abbrev pub invariant-loop-span : goal.invariant-loop-span
invariant-loop-span l = record {
  text : l.places ≡ l.fn.places;
  tokens : l.objects ++ each (location_value l.fn.places l.uri) (drop l.span-index l.spans) ≡ l.fn.objects ++ each (location_value l.fn.places l.uri) l.spans;
}
