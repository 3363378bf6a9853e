use Rattle.std.proofs.Common.{◌≡◌, ◌++◌, drop}
use Rattle.mvsjob_lsp.specs.Tokens.{each}
use Rattle.mvsjob_lsp.specs.Values.{action_value}
use Rattle.mvsjob_lsp.proofs.replies.write_each_action.Given as goal

abbrev pub invariant-loop-action : goal.invariant-loop-action
invariant-loop-action l = record {
  text : l.places ≡ l.fn.places;
  tokens : l.objects ++ each (action_value l.fn.places l.uri) (drop l.action-index l.actions) ≡ l.fn.objects ++ each (action_value l.fn.places l.uri) l.actions;
}
