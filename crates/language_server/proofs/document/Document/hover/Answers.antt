use Rattle.std.proofs.Common.{subst}
use Rattle.std.specs.Prelude.{IfOk}
use Rattle.language_server.specs.Hovers.{IsHoverAt}
use Rattle.language_server.proofs.document.Document.hover.Goals as goal

pub returns : goal.returns
returns c = subst (λ spot. IfOk c.hover_at.result (λ shown. IsHoverAt c.args.self.now spot shown)) c.spot_at.ensures.exact c.hover_at.ensures
