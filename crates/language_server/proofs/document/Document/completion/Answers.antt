use Rattle.std.proofs.Common.{◌≡◌, subst}
use Rattle.std.specs.Prelude.{IfOk}
use Rattle.language_server.specs.Proposals.{completion_at}
use Rattle.language_server.proofs.document.Document.completion.Goals as goal

pub returns : goal.returns
returns c = subst (λ spot. IfOk c.completion_at.result (λ completion. completion ≡ completion_at c.args.self.now spot)) c.spot_at.ensures.exact c.completion_at.ensures
