use Rattle.std.proofs.Common.{◌≡◌, ◌++◌, drop}
use Rattle.mvsjob_lsp.specs.Tokens.{each}
use Rattle.mvsjob_lsp.specs.Values.{proposal_value}
use Rattle.mvsjob_lsp.proofs.replies.write_each_proposal.Given as goal

abbrev pub invariant-loop-proposal : goal.invariant-loop-proposal
invariant-loop-proposal l = record {
  text : l.places ≡ l.fn.places;
  tokens : l.objects ++ each (proposal_value l.fn.places l.span) (drop l.proposal-index l.proposals) ≡ l.fn.objects ++ each (proposal_value l.fn.places l.span) l.proposals;
}
