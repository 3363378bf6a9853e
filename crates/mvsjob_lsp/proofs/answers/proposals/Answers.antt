use Rattle.std.proofs.Common.{refl}
use Rattle.mvsjob_lsp.specs.Values.{completion_value}
use Rattle.mvsjob_lsp.proofs.Chained.{on_ok}
use Rattle.mvsjob_lsp.proofs.answers.proposals.Goals as goal

pub returns : goal.returns
returns c = on_ok c.write_completion.result (λ e. (completion_value c.args.document.now.text c.in_ok-completion.completion, (c.place.result, c.place.ensures, rw c.in_ok-completion.ensures refl), e)) c.write_completion.ensures
